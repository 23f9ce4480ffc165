-- ---- tokens as numbers and places
pub mod Streams
pub mod Kinds
-- ---- laws for callers
pub mod KindLaws
pub mod StreamLaws
pub mod Heads
-- ---- laws that the proofs of the functions cite
pub mod Bytes
pub mod Worth
pub mod Keys
pub mod Known
pub mod Names
pub mod Words
pub mod Numerals
pub mod Reading
