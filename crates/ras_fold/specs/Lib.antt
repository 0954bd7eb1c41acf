pub mod Closed
pub mod Kept
pub mod Outcomes
pub mod Summary
pub mod Sums
