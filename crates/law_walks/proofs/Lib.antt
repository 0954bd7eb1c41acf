pub mod Comes
pub mod Due
pub mod Goes
pub mod Statements
pub mod Stays
pub mod Turns
