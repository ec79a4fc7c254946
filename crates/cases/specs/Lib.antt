pub mod Frozen
pub mod Widths
pub mod Wide
pub mod References
pub mod Rolled
