-- ---- what an assembly promises
pub mod Views
-- ---- the first pass
pub mod Survey
pub mod Surveys
-- ---- the word of a line
pub mod Holding
pub mod HoldingLaws
pub mod Encodings
pub mod Held
-- ---- the second pass, and the whole
pub mod Emit
pub mod EmitLaws
pub mod Emits
pub mod Assembling
