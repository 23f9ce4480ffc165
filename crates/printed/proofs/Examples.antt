-- The folder Examples: the sheet's lines.
pub mod Sheet
