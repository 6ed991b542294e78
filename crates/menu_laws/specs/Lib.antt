pub mod Lines
pub mod Shares
pub mod Keys
pub mod Updates
pub mod Work
pub mod OneKey
pub mod Hosts
