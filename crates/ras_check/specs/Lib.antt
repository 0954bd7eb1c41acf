pub mod ScopeView
pub mod Walk
pub mod Statements
