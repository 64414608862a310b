pub mod Expressions
pub mod Meaning
pub mod Budgets
pub mod Code
