pub mod Colours
pub mod Code
