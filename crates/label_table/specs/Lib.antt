-- ---- a table of labels: what a reader has to believe
pub mod Table
-- ---- what is proved of it, for the code and for its callers
pub mod Steps
pub mod Places
pub mod Fairness
pub mod Insertions
