pub mod Follows
pub mod Paced
pub mod Sessions
pub mod Steps
pub mod Wholes
