-- The folder Theorems: what is told of an answer shows its cause, and a cause is told exactly where the step answers its number.
pub mod Sets
pub mod Witness
pub mod Sound
