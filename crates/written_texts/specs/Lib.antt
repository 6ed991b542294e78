pub mod Encoded
pub mod Readings
