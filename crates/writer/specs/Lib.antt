-- ---- laws of writing an image, and what the writer promises
pub mod Views
pub mod Stores
pub mod Writing
