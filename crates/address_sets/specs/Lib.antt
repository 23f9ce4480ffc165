-- ---- laws of sets of addresses
pub mod SetLaws
