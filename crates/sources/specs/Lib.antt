-- ---- what a source text means: what a reader has to believe
pub mod Values
pub mod Texts
pub mod Labels
pub mod Words
pub mod Meaning
pub mod Listing
-- ---- what is proved of it
pub mod Laws
pub mod Examples
