pub mod Bits
pub mod Divisions
pub mod Ranges
pub mod Results
pub mod Storing
pub mod Wide
