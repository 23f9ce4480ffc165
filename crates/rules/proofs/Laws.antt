-- The folder Laws: what holds of the rules, for the theorems and the code to cite.
pub mod FormLaws
pub mod TestedRows
pub mod Passed
pub mod StepLaws
pub mod TagLaws
pub mod JoinLaws
pub mod ServiceRows
