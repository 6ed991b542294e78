pub mod Ending
pub mod Causes
