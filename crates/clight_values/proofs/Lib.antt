pub mod Walks
pub mod Shifts
pub mod HeldCells
pub mod Nesting
pub mod Filling
