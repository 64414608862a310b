pub mod Lexing
pub mod Reading
pub mod Labels
pub mod Orders
pub mod Layouts
