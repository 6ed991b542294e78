mod NameExamples
