pub mod Accepted
pub mod Faults
pub mod Private
