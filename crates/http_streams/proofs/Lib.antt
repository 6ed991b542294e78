pub mod ClosedLemmas
pub mod Counts
pub mod StreamLemmas
