pub mod Words
pub mod Dates
pub mod Runs
pub mod Pieces
pub mod Parts
pub mod Forms
pub mod References
pub mod Written
