-- The folder Theorems: a text tells its numbers, and how long it is at most.
pub mod Tells
pub mod Lengths
pub mod Numbers
pub mod Printing
pub mod Words
pub mod Bound
