-- ---- the numbers of the refusals
pub mod Numbers
pub mod Results
pub mod Laws
