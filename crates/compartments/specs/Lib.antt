-- ---- laws of the sets of compartment numbers
pub mod CountLaws
