pub mod Outcome
pub mod CatalogView
