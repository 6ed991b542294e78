pub mod CutLines
pub mod MenuLines
pub mod ShareLemmas
pub mod OneByOne
pub mod SameRuns
pub mod SameRows
pub mod RowsInOrder
pub mod UpdatedTargets
pub mod SmallRows
pub mod RunSteps
pub mod RequestSteps
pub mod NormalNumbers
pub mod CleanTables
pub mod SmallRegistries
pub mod ClosedHosts
mod RegistryExamples
mod PageExamples
mod HostExamples
