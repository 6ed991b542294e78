pub mod Longest
pub mod Kept
pub mod Walk
pub mod Totals
pub mod Steps
pub mod Limits
mod Examples
