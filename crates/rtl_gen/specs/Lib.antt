pub mod Translation
pub mod Promises
