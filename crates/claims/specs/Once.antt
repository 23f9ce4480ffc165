-- "Two outcomes allowed by one promise are proved equal": every public call of every library, over its contract. An outcome is what the
-- call hands back and every memory that it may change, at exit.
pub mod Written
pub mod Machine
pub mod Inner
pub mod Host
pub mod Sources
pub mod Exports
pub mod Imports
pub mod Printed
pub mod Sheets
pub mod Rooms
pub mod Programs
