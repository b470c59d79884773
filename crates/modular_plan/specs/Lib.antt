pub mod Plans
pub mod SubtablePlaces
pub mod Beginnings
pub mod DepthLaws
pub mod StepLaws
pub mod Methods
