pub mod Pruning
pub mod Laws
pub mod Searches
