pub mod Operands
pub mod Outcomes
pub mod Results
