-- ---- what the code answers, as the specs speak of it
pub mod Seen
-- ---- one pass over the tokens of a line, as the code makes it
pub mod Levels
pub mod Rows
pub mod Passes
