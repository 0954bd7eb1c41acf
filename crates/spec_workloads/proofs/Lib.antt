pub mod Declared
pub mod Outlines
