-- ---- the bytes of a text in quotes, and numbers in digits
pub mod Bytes
pub mod Numerals
pub mod Writing
-- ---- their laws
pub mod Laws
