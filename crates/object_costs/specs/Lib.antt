pub mod CostLists
pub mod Costs
pub mod Runs
