pub mod Cells
pub mod Given
pub mod Computed
pub mod Passing
pub mod Seen
