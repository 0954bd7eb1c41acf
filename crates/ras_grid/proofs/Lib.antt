pub mod Floors
pub mod Shares
pub mod Tiles
