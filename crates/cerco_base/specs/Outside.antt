pub mod IoFaults
pub mod IoStates
pub mod IoCalls
pub mod WholeFiles
pub mod FileStore
pub mod InMemory
pub mod Host
