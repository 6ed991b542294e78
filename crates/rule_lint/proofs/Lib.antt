pub mod Examples
mod LineExamples
pub mod ListSteps
pub mod AddsLemmas
pub mod NameSteps
pub mod HostSteps
pub mod ColumnSteps
pub mod StartLemmas
