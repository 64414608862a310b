pub mod Allocations
pub mod Frames
pub mod Allocated
pub mod OneCell
pub mod Translation
pub mod Renamed
pub mod Code
