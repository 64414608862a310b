pub mod HeldBody
pub mod HeldFile
pub mod HeldFunction
pub mod HeldOwn
pub mod HeldScopes
pub mod HeldTrees
