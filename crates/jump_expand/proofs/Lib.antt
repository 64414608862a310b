pub mod Tables
pub mod Forms
pub mod Anchors
pub mod Steps
pub mod Emitting
