-- ---- what is seen of a call, and the laws by which the code finds what it tells
pub mod Views
pub mod Giving
pub mod VerdictLaws
pub mod PlaceLaws
pub mod WalkLaws
pub mod SetLaws
pub mod RowLaws
