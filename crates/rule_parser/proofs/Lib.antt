pub mod TokenLemmas
pub mod EscapeLemmas
pub mod GuardLemmas
pub mod ReaderLemmas
pub mod LineNumbers
pub mod LineLemmas
pub mod NameLemmas
pub mod LawLemmas
pub mod LineLaws
pub mod FaultLaws
pub mod FirstFaults
pub mod SpellingLemmas
pub mod MentionLemmas
pub mod NameChoice
pub mod GuardChoice
pub mod WholeGuards
pub mod LineChoice
pub mod Examples
pub mod LineExamples
mod MeaningExamples
mod MentionExamples
