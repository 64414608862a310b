pub mod Numbering
pub mod Views
