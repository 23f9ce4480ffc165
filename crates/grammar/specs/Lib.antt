-- ---- the grammar of a line: what a reader has to believe
pub mod Tokens
pub mod Trees
pub mod Grammar
pub mod Spelling
pub mod Sources
-- ---- what is proved of it
pub mod Reading
pub mod Laws
pub mod Examples
