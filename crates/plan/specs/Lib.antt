pub mod Tables
pub mod Waves
pub mod Planning
pub mod Tally
