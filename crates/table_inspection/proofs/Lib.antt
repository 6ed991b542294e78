pub mod OnLiterals
pub mod Ranges
pub mod AddingLemmas
pub mod CountingLemmas
pub mod MostLemmas
pub mod KnownRows
pub mod TallyLemmas
pub mod SpellingLemmas
pub mod CellLemmas
pub mod NameLemmas
pub mod RowCells
pub mod NormalForms
mod TextExamples
mod TableExamples
