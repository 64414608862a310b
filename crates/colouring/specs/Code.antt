pub mod Rows
pub mod Neighbours
