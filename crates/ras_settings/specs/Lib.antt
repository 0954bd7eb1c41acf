pub mod App
pub mod Form
pub mod Reading
pub mod Schedule
pub mod Settings
pub mod Values
