-- ---- what the contracts see, and the laws that the proofs cite
pub mod Endings
pub mod Views
pub mod Front
pub mod Made
pub mod LineLaws
pub mod TextLaws
