pub mod Operators
pub mod Calls
pub mod Programs
pub mod Lengths
pub mod RtLabs
pub mod Cminor
pub mod Code
