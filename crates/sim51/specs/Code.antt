pub mod Slots
pub mod Quiets
