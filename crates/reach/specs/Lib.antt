-- ---- laws of what a compartment reaches
pub mod Called
pub mod WalkLaws
pub mod ReachLaws
pub mod ReadLaws
