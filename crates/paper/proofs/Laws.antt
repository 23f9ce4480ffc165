-- The folder Laws: what holds of the abstract machine, for its theorems to cite.
pub mod CompLaws
pub mod Tested
pub mod RunLaws
