pub mod Ends
pub mod Found
pub mod OnTheWay
pub mod Runs
