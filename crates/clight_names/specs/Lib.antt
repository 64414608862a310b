pub mod Spellings
pub mod Occurrences
pub mod Regions
pub mod NameFaults
pub mod Outcomes
pub mod Code
