mod Spelled
mod Thinning
pub mod Places
