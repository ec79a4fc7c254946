pub mod After
pub mod SixArcs
pub mod Planned
pub mod TwoOrders
