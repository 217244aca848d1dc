pub mod Operands
pub mod Faults
pub mod Examples
