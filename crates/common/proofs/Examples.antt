-- The folder Examples: the shared definitions by example.
pub mod InstructionExamples
