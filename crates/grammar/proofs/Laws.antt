-- The folder Laws: what the readers answer, exactly, and what the code cites of them.
pub mod Opcodes
pub mod Answers
pub mod Complete
pub mod StateText
pub mod Sound
pub mod Brackets
pub mod Viable
pub mod Verdicts
pub mod Digits
pub mod Tables
pub mod LexLaws
pub mod Seams
pub mod SourceVerdicts
pub mod ShapeRows
pub mod ShapeMoves
pub mod ShapeLaws
