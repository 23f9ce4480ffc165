-- The folder Laws: what holds of the shared definitions, for the theorems and the code to cite.
pub mod Tests
pub mod CheckLaws
pub mod TableLaws
pub mod WordLaws
pub mod WordCount
pub mod InstructionLaws
pub mod ServiceLaws
pub mod AddressSetLaws
pub mod Meaning
