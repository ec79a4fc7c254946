pub mod Filing
pub mod Promised
pub mod Stepping
pub mod Asked
