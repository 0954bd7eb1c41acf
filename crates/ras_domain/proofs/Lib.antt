pub mod PointSets
pub mod Faults
pub mod Places
pub mod Points
pub mod RowOrder
pub mod Walks
pub mod BoxTests
