-- ---- the record as a state, laws of the run
pub mod Views
pub mod RunLaws
