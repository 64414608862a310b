pub mod Numbers
pub mod Scopes
pub mod Expressions
pub mod Statements
pub mod Formed
pub mod Programs
pub mod Labels
