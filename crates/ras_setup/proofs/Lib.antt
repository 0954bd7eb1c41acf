pub mod Asked
pub mod Bases
pub mod Behind
pub mod Finding
pub mod Shorts
pub mod Taken
pub mod Texts
