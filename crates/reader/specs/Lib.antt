-- ---- laws of reading an image, and what the reader promises
pub mod Views
pub mod Reading
