pub mod UriTextLemmas
pub mod FieldLemmas
pub mod TableLemmas
pub mod FileLemmas
pub mod PartsLemmas
pub mod LineLemmas
pub mod StageLemmas
pub mod NameLaws
pub mod LiteralLaws
pub mod ReadingStages
pub mod FileLaws
pub mod EntryDecisions
pub mod FileDecisions
mod Examples
mod PartExamples
mod FaultExamples
mod ListingExamples
