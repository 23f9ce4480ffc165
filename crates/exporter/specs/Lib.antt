-- ---- laws of writing a text, and what the exporter promises
pub mod Views
pub mod Words
pub mod Records
pub mod Verdicts
