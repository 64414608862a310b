pub mod Graphs
pub mod Meaning
pub mod WellFormed
pub mod Sums
