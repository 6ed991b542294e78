pub mod Led
pub mod UriExpansions
pub mod Undefined
pub mod Examples
mod EdgeExamples
