-- The folder Laws: what the readers answer, exactly, and what the code cites of them.
pub mod Runs
