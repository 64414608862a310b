pub mod Markers
pub mod Trees
pub mod Spelling
pub mod Depth
pub mod Code
