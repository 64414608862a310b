pub mod Evaluation
pub mod Holding
pub mod Missing
pub mod Views
pub mod Turns
