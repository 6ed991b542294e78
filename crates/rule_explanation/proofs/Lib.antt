mod PageExamples
mod RuleExamples
pub mod NameLemmas
pub mod PlaceLemmas
pub mod LeftRows
pub mod LawLemmas
pub mod LastTried
pub mod LinkLemmas
pub mod WholeText
pub mod RowLemmas
mod CellLemmas
mod KnownLemmas
