pub mod CellList
pub mod Literals
