-- The folder Laws: values, labels and lines, for the theorems and the code to cite.
pub mod Places
pub mod PlaceLaws
pub mod FirstLaws
pub mod Walks
pub mod Each
pub mod ValueLaws
pub mod LabelLaws
pub mod Operands
pub mod LineNumbers
pub mod Outcomes
pub mod HeldWords
pub mod Registers
