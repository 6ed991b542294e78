pub mod Written
pub mod Parsed
