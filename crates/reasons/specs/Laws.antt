-- The folder Laws: what holds of the first that does not pass, and of the rows.
pub mod FirstLaws
pub mod RowLaws
