pub mod Booleans
pub mod Forms
pub mod Meanings
pub mod NumberTexts
pub mod Parses
pub mod Readings
