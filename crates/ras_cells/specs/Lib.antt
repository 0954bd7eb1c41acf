pub mod Atoms
pub mod Cells
pub mod Laws
pub mod Numbers
pub mod Outcomes
pub mod Runs
pub mod Stored
