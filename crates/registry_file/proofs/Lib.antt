pub mod LineLemmas
pub mod StopLemmas
pub mod LoadLemmas
