-- ---- what is printed: what a reader has to believe
pub mod Text
pub mod Outcome

-- ---- what is proved of it
