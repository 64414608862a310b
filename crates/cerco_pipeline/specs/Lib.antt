pub mod Programs
pub mod Built
pub mod Compiled
pub mod Laws
pub mod Told
