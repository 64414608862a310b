pub mod Appending
pub mod Rows
pub mod Places
pub mod NameSpellings
pub mod Judging
mod NameExamples
