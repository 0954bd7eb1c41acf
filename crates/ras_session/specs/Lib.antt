pub mod Prepared
pub mod Replied
pub mod Served
pub mod Steps
pub mod Tied
