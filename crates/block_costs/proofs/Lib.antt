pub mod Marking
pub mod Tallies
pub mod Sound
pub mod Sums
pub mod Alike
mod Examples
