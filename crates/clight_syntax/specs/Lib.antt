pub mod LiteralTypes
pub mod Annotations
pub mod Labelling
pub mod TypedSpans
pub mod TypedTrees
pub mod Bounds
pub mod Code
