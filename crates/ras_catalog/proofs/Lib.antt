pub mod Joined
pub mod Listed
pub mod Kept
pub mod Passing
