pub mod Reasons
pub mod Code
