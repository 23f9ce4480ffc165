-- The folder Laws: what holds of the rules, for the theorems and the code to cite.
pub mod CompartmentLaws
pub mod Tested
pub mod CountLaws
pub mod RowLaws
