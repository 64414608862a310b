pub mod Preserved
pub mod Stands
