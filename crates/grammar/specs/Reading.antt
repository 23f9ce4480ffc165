-- The folder Reading: the readers: how bytes become tokens and tokens a line.
pub mod Reader
pub mod Lexer
pub mod Kinds
pub mod Shapes
