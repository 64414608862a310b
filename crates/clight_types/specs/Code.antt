pub mod Boxes
pub mod Held
pub mod HeldNames
pub mod HeldStructs
pub mod HeldJudged
