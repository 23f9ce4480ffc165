-- ---- the results of the arithmetic instructions and of a branch, for any numbers
pub mod Targets
