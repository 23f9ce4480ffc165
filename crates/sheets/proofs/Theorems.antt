-- The folder Theorems: the writers are the members of W; the sums of the totals; totals of 32 bits are exact; a line is the run program's.
pub mod Writers
pub mod Refused
pub mod Sums
pub mod Exact
pub mod Images
pub mod Lengths
pub mod Bound
pub mod Telling
pub mod Run
