pub mod Sizes
pub mod Stars
pub mod PlaceLemmas
pub mod StructLemmas
