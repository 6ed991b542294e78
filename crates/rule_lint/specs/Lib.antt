pub mod Names
pub mod Reach
pub mod WebLink
pub mod HostStates
pub mod Host
pub mod Findings
pub mod Private
