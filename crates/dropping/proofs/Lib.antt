pub mod Growing
pub mod Points
pub mod Turning
pub mod Rounds
pub mod Finding
pub mod Chosen
pub mod Pruned
