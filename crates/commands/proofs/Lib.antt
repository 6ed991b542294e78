pub mod AnswerLemmas
pub mod ArgumentLemmas
pub mod OutputLemmas
