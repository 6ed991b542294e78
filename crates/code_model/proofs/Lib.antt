mod Examples
mod OperandExamples
