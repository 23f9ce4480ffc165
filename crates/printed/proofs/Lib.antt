-- ---- what is proved of the definitions of specs/
pub mod Theorems
pub mod Examples
