mod PathExamples
pub mod PlacingLemmas
