pub mod Each
pub mod CminorRows
pub mod ExampleProgram
pub mod RtLabsPaths
mod RtLabsExamples
mod RtLabsBrokenExamples
mod OperatorExamples
mod CminorExamples
mod CminorBrokenExamples
pub mod MemoryLaws
pub mod OperatorLaws
