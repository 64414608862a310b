pub mod Paths
pub mod Built
pub mod HaveCosts
pub mod Landing
pub mod RunCosts
pub mod CostBounds
pub mod CostLists
mod Example
