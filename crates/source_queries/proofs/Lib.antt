pub mod Bytes
pub mod Keys
pub mod Declared
pub mod Readings
pub mod Bounds
