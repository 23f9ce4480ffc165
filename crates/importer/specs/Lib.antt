-- ---- what is seen of an import, what a line comes to, and the laws of both
pub mod Views
pub mod Steps
pub mod RecordLaws
pub mod PlaceLaws
pub mod StepLaws
pub mod ReadLaws
pub mod EndLaws
