pub mod EnvironmentGrowth
pub mod Environments
pub mod NameTests
pub mod OtherNames
mod EnvironmentExamples
mod ListExamples
