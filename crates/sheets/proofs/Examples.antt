-- The folder Examples: a night of three.
pub mod Night
