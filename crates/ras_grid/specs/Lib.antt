pub mod Grid
pub mod Runs
