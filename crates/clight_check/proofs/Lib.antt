pub mod UniqueLayouts
pub mod SoundnessLaws
