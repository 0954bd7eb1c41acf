pub mod Cuts
pub mod Gives
pub mod Joins
pub mod Looks
pub mod Moves
pub mod Trees
pub mod Ways
