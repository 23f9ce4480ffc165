-- The folder Examples: what is told of given states.
pub mod WhyExamples
