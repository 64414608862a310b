pub mod States
pub mod Expressions
pub mod Statements
pub mod Declarations
pub mod Recogniser
pub mod Postfix
