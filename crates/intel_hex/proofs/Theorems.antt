-- The folder Theorems: each answer exactly, what an export leaves, what it says when it is read, and the round trip.
pub mod Numbers
pub mod Exported
pub mod ReadBack
pub mod RoundTrip
pub mod Accepted
pub mod Answers
