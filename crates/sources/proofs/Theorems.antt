-- The folder Theorems: each answer of assembling exactly, and what an image of a text decodes to.
pub mod TextNumbers
pub mod Assembling
pub mod Decodes
pub mod TextDecodes
pub mod Accepted
