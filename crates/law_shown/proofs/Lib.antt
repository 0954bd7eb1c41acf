pub mod Arrays
pub mod Consequences
pub mod Databases
pub mod Held
pub mod Members
pub mod Shows
