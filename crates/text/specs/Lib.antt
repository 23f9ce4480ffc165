-- ---- laws of texts put into a buffer, and what the calls promise
pub mod Puts
pub mod Stores
