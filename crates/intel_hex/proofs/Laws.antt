-- The folder Laws: lists of bytes, pairs of digits, records that were written, the length of a text, and memories.
pub mod Bounds
pub mod Pairs
pub mod Written
pub mod Lengths
pub mod Memories
