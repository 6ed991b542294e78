pub mod EnvValue
pub mod Layout
pub mod Members
pub mod Private
