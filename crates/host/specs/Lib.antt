-- ---- what the calls for C promise
pub mod Views
