-- ---- laws of the masks and of packing a word, and the promises
pub mod Masks
pub mod Packing
pub mod Views
