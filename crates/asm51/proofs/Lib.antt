pub mod Counting
pub mod Sizes
pub mod Addresses
pub mod Rounds
pub mod Readings
pub mod Reaching
pub mod Found
pub mod StraightCode
mod Samples
mod MeaningExamples
mod LayoutExamples
mod WellFormedExamples
mod EndExamples
