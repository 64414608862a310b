pub mod Simulation
pub mod Sources
pub mod HeadlineProofs
pub mod Inserted
pub mod UnseenWeights
pub mod Bounded
pub mod WorldLaws
mod Examples
