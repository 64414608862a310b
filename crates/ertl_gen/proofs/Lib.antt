pub mod Exchanged
pub mod Related
pub mod Preserved
pub mod Convention
pub mod Needs
pub mod Outline
pub mod Translated
