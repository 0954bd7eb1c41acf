pub mod Databases
pub mod Kept
pub mod Piece
pub mod Store
pub mod View
