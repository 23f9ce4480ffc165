-- ---- what is told of each answer: what a reader has to believe
pub mod First
pub mod Why
pub mod Causes
-- ---- what is proved of it
pub mod Laws
pub mod Theorems
pub mod Examples
