pub mod Closings
pub mod Rows
pub mod Settling
pub mod Tables
