pub mod Applied
pub mod Changed
pub mod Filling
pub mod Listing
pub mod Making
pub mod Pairs
pub mod Stored
pub mod Unmet
