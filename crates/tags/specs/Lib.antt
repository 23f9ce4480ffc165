-- ---- laws of the tags
pub mod TagLaws
