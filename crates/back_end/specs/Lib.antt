pub mod Needs
pub mod Chain
pub mod Refusals
