pub mod Translation
pub mod Code
pub mod Promises
