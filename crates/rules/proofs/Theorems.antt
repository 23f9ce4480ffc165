-- The folder Theorems: theorems of the tagged machine alone.
pub mod Stays
pub mod Refusals
pub mod Additive
pub mod Counted
pub mod Widest
pub mod Unread
pub mod Sheet
pub mod Numbers
pub mod Worded
pub mod ImageNumbers
pub mod Grows
pub mod Rest
pub mod Formed
pub mod Leaving
pub mod Alike
pub mod Readers
pub mod Rows
