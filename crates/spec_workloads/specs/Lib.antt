pub mod Answers
pub mod CheckText
pub mod Outline
pub mod Programs
pub mod Sections
pub mod Setup
pub mod TypeLines
pub mod WorkedTexts
