pub mod Operands
pub mod Operators
pub mod Table
pub mod Decoding
pub mod Listing
pub mod Offsets
pub mod Flow
pub mod Code
