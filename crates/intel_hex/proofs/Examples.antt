-- The folder Examples: texts by computation.
pub mod Samples
