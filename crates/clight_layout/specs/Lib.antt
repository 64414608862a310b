pub mod Calls
pub mod Frames
pub mod Layout
pub mod Reasons
pub mod Code
