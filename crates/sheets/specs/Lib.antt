-- ---- the sheet: what a reader has to believe
pub mod Lines
pub mod Totals
pub mod Told

-- ---- laws that the code cites, and what is proved of the sheet
