pub mod Same
pub mod Places
pub mod Entries
pub mod Keeping
pub mod Conflicts
