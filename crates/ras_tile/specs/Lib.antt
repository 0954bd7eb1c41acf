pub mod Cells
pub mod Lent
pub mod Planes
pub mod Stored
pub mod Tile
