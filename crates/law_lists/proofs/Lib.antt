pub mod Choices
pub mod Each
pub mod Elements
pub mod Maps
pub mod Orders
pub mod Zips
