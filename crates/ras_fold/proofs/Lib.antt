pub mod AnyOrder
pub mod Faults
pub mod Folded
pub mod Joining
pub mod Orders
pub mod Same
pub mod Summaries
