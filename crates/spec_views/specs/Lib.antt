pub mod Holdings
pub mod Sessions
pub mod Work
pub mod Writings
