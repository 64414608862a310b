pub mod Labels
pub mod Ertl
pub mod Placed
pub mod Linearised
pub mod Composed
pub mod Needs
pub mod Made
pub mod Refused
mod Examples
