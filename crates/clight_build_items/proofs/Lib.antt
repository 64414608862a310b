pub mod Pushes
pub mod Folds
pub mod ItemFolds
pub mod Insides
