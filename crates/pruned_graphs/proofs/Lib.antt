pub mod Strong
pub mod Values
pub mod Related
pub mod Steps
pub mod Preserved
pub mod Back
pub mod Convention
pub mod NoneDead
pub mod Fewer
pub mod Flow
pub mod Needs
pub mod Formed
pub mod Program
pub mod Searching
pub mod Selecting
mod PrunedExamples
