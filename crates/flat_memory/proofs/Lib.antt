pub mod Lists
pub mod Ram
pub mod Shapes
pub mod Loads
pub mod Pointers
pub mod Integers
pub mod Blocks
