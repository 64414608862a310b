pub mod Trees
pub mod Meaning
pub mod WellFormed
pub mod Sums
