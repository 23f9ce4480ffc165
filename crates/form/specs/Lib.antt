-- ---- check 14 by the numbers that the code looks at
pub mod Form
