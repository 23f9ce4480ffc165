-- ---- outcomes of the services, their laws
pub mod Outcomes
pub mod CallLaws
