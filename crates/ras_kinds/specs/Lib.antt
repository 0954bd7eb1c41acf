pub mod Joint
pub mod Seen
pub mod Domains
pub mod Composites
pub mod NamesSeen
pub mod Follows
pub mod Parts
