pub mod OnLiterals
mod IdentifierExamples
pub mod ReadingExamples
mod CellExamples
pub mod LineCells
pub mod LineRests
pub mod KeptLines
pub mod WholeLines
pub mod FirstColumns
pub mod ReadingLines
pub mod ReadingWholeLines
pub mod FillingLemmas
pub mod Rows
pub mod RowSums
pub mod RowOrder
pub mod NormalBytes
pub mod IndexLemmas
pub mod EntryLemmas
pub mod SharingLemmas
pub mod RowSharing
pub mod RunLemmas
pub mod MatchLemmas
pub mod NameSetLemmas
