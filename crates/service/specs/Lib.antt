-- ---- what a step at a service comes to, and that it is the rules' step
pub mod Served
pub mod CaseLaws
pub mod ServiceLaws
pub mod ServingRows
pub mod StopLaws
