pub mod Parts
pub mod Forms
pub mod Expressions
pub mod Statements
pub mod Declarations
pub mod Machine
pub mod Flat
