pub mod Faults
pub mod Failing
pub mod Gathering
pub mod Holding
pub mod Memory
pub mod Piece
pub mod Sink
pub mod Standard
