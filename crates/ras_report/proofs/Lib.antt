pub mod Join
pub mod Parts
pub mod Found
pub mod Rows
pub mod Sessions
