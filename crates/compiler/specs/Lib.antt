pub mod Limits
pub mod Private
