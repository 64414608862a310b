pub mod Lists
pub mod Named
pub mod Following
mod PlacingSteps
pub mod Laying
mod Seeking
mod Preserved
pub mod Numbers
pub mod Sums
pub mod Kept
mod Lengths
mod Formed
mod Whole
