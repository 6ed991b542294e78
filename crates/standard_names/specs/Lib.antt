pub mod Columns
pub mod Keys
