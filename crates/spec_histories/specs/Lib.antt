pub mod History
pub mod Legal
pub mod Serializable
pub mod Worked
