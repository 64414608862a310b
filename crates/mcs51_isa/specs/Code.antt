pub mod OperandLists
