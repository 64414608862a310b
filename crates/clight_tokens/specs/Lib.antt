pub mod Lexemes
pub mod Constants
pub mod Tokens
pub mod Symbols
pub mod SourceTrees
pub mod Code
