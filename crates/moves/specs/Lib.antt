-- ---- what an instruction moves, its laws
pub mod Moves
pub mod MoveLaws
pub mod Applied
