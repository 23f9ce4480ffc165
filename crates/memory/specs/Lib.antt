-- ---- what is written
pub mod Places
