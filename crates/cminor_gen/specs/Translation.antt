pub mod Operators
pub mod Expressions
pub mod Statements
pub mod Start
pub mod Programs
