pub mod Endings
pub mod Tags
pub mod Names
pub mod References
pub mod Titles
pub mod Spaces
