mod PrintedExamples
pub mod Adding
