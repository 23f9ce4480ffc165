-- ---- values as the code has them; what they mean in whole numbers
pub mod Values
pub mod Integers
pub mod Meaning
pub mod Fields
-- ---- the same with refusals for faults, as the crates above have it
pub mod Refusals
