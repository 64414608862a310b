pub mod Copied
pub mod Programs
pub mod Storages
pub mod Formed
pub mod Lengths
pub mod Unchanged
