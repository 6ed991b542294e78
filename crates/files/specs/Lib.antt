pub mod Found
pub mod Changes
pub mod Modes
pub mod Failures
pub mod Placing
pub mod Errors
pub mod Paths
pub mod Writing
