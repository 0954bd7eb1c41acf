pub mod Arrays
pub mod Asked
pub mod Plans
pub mod RowsKept
pub mod Stops
