pub mod Exponents
pub mod LabelsInOrder
