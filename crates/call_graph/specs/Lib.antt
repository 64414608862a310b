pub mod CallPaths
pub mod Code
