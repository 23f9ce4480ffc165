-- The folder Examples: whole texts and listings by computation.
pub mod Samples
