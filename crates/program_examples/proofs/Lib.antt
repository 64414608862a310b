pub mod Example
pub mod Checked
