pub mod Begins
pub mod Outcomes
pub mod Printable
pub mod Report
pub mod Walk
pub mod Worked
pub mod WorkedReports
