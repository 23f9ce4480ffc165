-- ---- laws of loading an image, and what the loader promises
pub mod Loading
pub mod Views
pub mod LentLoading
