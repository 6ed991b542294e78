pub mod Targets
pub mod Names
pub mod RowEnvironments
pub mod Entries
pub mod MenuLinks
pub mod Refusals
