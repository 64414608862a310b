pub mod Cases
pub mod Inverse
pub mod HexText
pub mod Bounds
pub mod Addresses
mod FlowExamples
