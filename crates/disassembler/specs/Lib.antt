-- ---- laws of writing a listing, and what the disassembler promises
pub mod Views
pub mod Stores
pub mod Names
pub mod Operands
pub mod Lines
pub mod Verdicts
