pub mod Appending
pub mod OrderSums
pub mod Measures
pub mod Ranges
mod LayoutExamples
