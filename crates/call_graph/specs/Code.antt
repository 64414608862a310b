pub mod Nodes
pub mod Walks
pub mod Searches
pub mod Largest
