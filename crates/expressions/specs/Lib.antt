-- ---- readers of expressions, as code reads them
pub mod Readers
-- ---- their laws, as the code comes to them
pub mod Reading
pub mod Forward
pub mod Turns
-- ---- what the grammar writes is read back with its value
pub mod Completes
