-- How many digits there are, and that they tell their number.
pub mod Widths
pub mod Tells
