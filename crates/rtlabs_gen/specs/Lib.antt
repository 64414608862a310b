pub mod Translation
pub mod Stands
pub mod Outline
pub mod Promises
