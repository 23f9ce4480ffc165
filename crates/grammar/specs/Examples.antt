-- The folder Examples: lines by computation.
pub mod Samples
