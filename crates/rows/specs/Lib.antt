-- ---- the lent table as the rules' rows, and its laws
pub mod Views
pub mod TableLaws
