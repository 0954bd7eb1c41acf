pub mod Cells
pub mod Copying
mod Covers
pub mod RowPlaces
pub mod Tiles
