pub mod Outside
pub mod Events
pub mod Bytes
pub mod HexDigits
pub mod Ports
pub mod CallOrder
pub mod Code
