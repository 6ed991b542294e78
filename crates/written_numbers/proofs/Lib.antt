pub mod Ranges
pub mod Mapped
pub mod Parts
pub mod NumberLines
pub mod NumberLaws
pub mod Trimming
pub mod ContinuedLines
pub mod IdentifierLaws
