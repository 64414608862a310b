pub mod FirstDeep
pub mod Depths
pub mod ItemDepths
pub mod OneNesting
mod NestingExamples
