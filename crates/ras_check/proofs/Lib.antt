pub mod Listed
pub mod Forms
pub mod Placed
pub mod Steps
pub mod Statements
