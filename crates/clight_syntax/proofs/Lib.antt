pub mod TypedRows
pub mod PointsInOrder
pub mod LabelsDetermined
pub mod LabelledExamples
pub mod BoundExamples
pub mod PointsBegin
pub mod OwnVariables
