mod CodeFileExamples
mod LimitExamples
pub mod ShapeChoice
pub mod TableGrowth
pub mod ReachLemmas
pub mod NameBytes
pub mod CodeParts
pub mod RuleSteps
pub mod RuleTables
pub mod LimitLemmas
pub mod BlockSteps
