pub mod Boxes
pub mod Region
pub mod formers
