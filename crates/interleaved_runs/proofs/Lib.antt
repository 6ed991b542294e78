pub mod RunSetLemmas
pub mod FateLemmas
pub mod TurnLemmas
pub mod StepListLemmas
pub mod TurnsOfAll
