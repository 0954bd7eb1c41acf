mod Ends
pub mod Going
pub mod Known
mod Replies
