pub mod Plans
pub mod Answers
pub mod Relations
pub mod Laws
pub mod Alike
pub mod LeastWaits
pub mod Steps
