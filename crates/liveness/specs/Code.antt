pub mod Rows
pub mod Reach
pub mod Views
pub mod Points
pub mod Flow
