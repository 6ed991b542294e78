pub mod Findings
pub mod Columns
pub mod Identifiers
pub mod Cells
pub mod Inspection
pub mod Private
