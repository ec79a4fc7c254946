pub mod Naming
pub mod Counting
pub mod Counted
pub mod Rows
pub mod Spreading
pub mod Plannings
pub mod Jobs
