pub mod Code
pub mod Erasure
pub mod Laws
pub mod Numbers
