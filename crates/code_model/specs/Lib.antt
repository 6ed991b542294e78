pub mod Code
pub mod Operands
