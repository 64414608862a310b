pub mod Translation
pub mod Graphs
