pub mod Characters
pub mod Numbers
pub mod Layout
pub mod Identifiers
