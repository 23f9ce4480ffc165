-- ---- the format, reading it and writing it: what a reader has to believe
pub mod Records
pub mod Reading
pub mod Importing
pub mod Exporting

-- ---- what is proved of it
