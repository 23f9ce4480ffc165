-- ---- who may run and store, the laws
pub mod Rights
pub mod Arrivals
pub mod RightsLaws
