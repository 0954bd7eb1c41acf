pub mod ByNames
pub mod Kept
