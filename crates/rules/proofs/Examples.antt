-- The folder Examples: the sheet's lines marked P and its images, proved or computed.
pub mod Lines
pub mod LineProofs
pub mod Samples
