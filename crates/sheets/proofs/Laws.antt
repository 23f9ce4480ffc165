-- The folder Laws: lines and totals as the code comes to them.
pub mod Counting
