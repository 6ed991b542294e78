pub mod Parts
pub mod Remarks
pub mod Titles
