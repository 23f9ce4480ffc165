-- ---- what a run's answer comes to
pub mod Status
