pub mod Arcs
pub mod Chains
pub mod Tables
pub mod Closures
pub mod Groups
