pub mod Statements
pub mod Functions
pub mod Sources
pub mod Programs
pub mod TypedStatements
pub mod TypedPrograms
pub mod Laws
pub mod Code
