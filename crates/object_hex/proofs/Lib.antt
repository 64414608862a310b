mod Raised
pub mod HexBack
pub mod HexWalk
mod Lines
mod Loops
mod Addresses
mod Behind
pub mod MapBack
pub mod Maps
mod Places
mod RecordForm
mod Splits
mod Taken
mod Written
pub mod Examples
pub mod ReadExamples
