pub mod Systems
pub mod Preservation
pub mod Headline
pub mod LabelledGraphs
pub mod Worlds
