pub mod FirstWrong
pub mod Readers
pub mod Reading
pub mod VerdictOf
