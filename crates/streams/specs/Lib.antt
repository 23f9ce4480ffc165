-- ---- what the contracts' counts need
pub mod Counted
pub mod Moved
