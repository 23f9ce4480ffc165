-- ---- laws and meaning of the counts, and their promises
pub mod CountLaws
pub mod Meaning
pub mod Wholes
