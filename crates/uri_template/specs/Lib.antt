pub mod Expansion
pub mod Private
