-- ---- where a label is defined first: what a reader has to believe
pub mod Locating
-- ---- its laws, as code comes to them
pub mod LineLaws
pub mod Scans
