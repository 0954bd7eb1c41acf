pub mod CheckedCases
pub mod CheckedForms
pub mod Effects
pub mod LongLists
