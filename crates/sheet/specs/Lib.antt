-- ---- what the contracts see, and the laws that the proofs cite
pub mod Views
pub mod LineLaws
pub mod TotalLaws
pub mod LineMaking
