pub mod Ordering
pub mod Kept
pub mod Linearised
pub mod Code
