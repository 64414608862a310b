pub mod Faults
pub mod Code
