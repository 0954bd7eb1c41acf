pub mod ChangesFor
pub mod Replacements
pub mod Sound
pub mod Writes
pub mod Written
