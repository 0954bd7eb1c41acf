pub mod Asking
pub mod Counts
pub mod Journal
pub mod States
