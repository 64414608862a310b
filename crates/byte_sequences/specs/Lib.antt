pub mod Words
pub mod Sequences
pub mod Operations
pub mod Code
