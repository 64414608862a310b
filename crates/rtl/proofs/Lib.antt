pub mod ValueLaws
pub mod EffectLaws
pub mod Renamings
pub mod RenamedGraphs
pub mod Points
pub mod Colourings
pub mod Samples
mod RunExamples
mod LengthExamples
mod WellFormedExamples
mod LiveExamples
mod ColouringExamples
mod ConventionExamples
mod LabelledExamples
