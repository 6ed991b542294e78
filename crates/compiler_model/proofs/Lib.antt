pub mod ExampleRules
mod CodeExamples
mod LineExamples
mod TableExamples
mod VersionExamples
pub mod Effects
pub mod Places
pub mod Simulation
pub mod FirstItems
pub mod Pieces
pub mod SpecPieces
pub mod Guards
pub mod ListGuards
pub mod RuleRuns
pub mod Entries
pub mod Formed
pub mod Placement
pub mod CodePlaces
pub mod Forming
pub mod NoFaults
pub mod CodeForm
pub mod UsedNames
pub mod CodeNames
pub mod Typed
pub mod TypedGuards
pub mod TypedExpressions
pub mod CodeKinds
pub mod RuleKinds
