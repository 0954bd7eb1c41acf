pub mod Boxes
pub mod Copies
pub mod Empty
pub mod Lists
pub mod Maps
pub mod Ready
pub mod Search
pub mod Slots
