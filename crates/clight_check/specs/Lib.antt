pub mod Soundness
pub mod Laws
