pub mod Settling
pub mod Plain
