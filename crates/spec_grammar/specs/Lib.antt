pub mod Grammar
pub mod Order
pub mod Tokens
pub mod Verdict
pub mod Weight
pub mod Worked
