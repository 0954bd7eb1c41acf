pub mod Answer
pub mod Call
pub mod Commands
pub mod ReadAll
pub mod Said
