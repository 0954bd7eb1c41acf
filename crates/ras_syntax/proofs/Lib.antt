pub mod CellsFrom
