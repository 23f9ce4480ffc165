-- What is said of every outcome of the code, over its contracts, where it rests on how the calls are seen.
pub mod Calls
pub mod Sessions
pub mod CodeRefusals
pub mod CodeAgreement
pub mod Strict
pub mod CodeRows
