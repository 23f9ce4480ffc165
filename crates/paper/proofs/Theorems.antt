-- The folder Theorems: what every step of the abstract machine keeps, and the paper's property of it.
pub mod Sound
pub mod Property
