pub mod Ways
pub mod Sound
pub mod Sums
pub mod Code
