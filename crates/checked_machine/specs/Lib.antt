pub mod Outcomes
pub mod Private
