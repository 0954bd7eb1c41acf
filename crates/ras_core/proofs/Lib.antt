pub mod CoreAsks
pub mod CoreSteps
pub mod Counted
pub mod Righted
pub mod Shorter
