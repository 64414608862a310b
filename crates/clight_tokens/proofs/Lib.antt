pub mod PunctuatorTable
pub mod Heads
pub mod Longer
pub mod Comments
pub mod Places
pub mod Values
pub mod Steps
pub mod Unique
pub mod OneAnswer
pub mod Spans
pub mod NameLists
pub mod Numbering
mod TokenExamples
