pub mod Copies
pub mod Filled
pub mod Made
pub mod Rows
pub mod Stores
pub mod Works
