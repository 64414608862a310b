pub mod Values
pub mod Memory
pub mod Operators
pub mod Globals
pub mod Code
