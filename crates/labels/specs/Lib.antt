pub mod Algebra
pub mod Fits
pub mod Kinds
pub mod Lawful
pub mod Alike
pub mod Masks
