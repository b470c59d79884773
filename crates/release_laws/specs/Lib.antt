pub mod Laws
pub mod RoundingLaws
pub mod RunLaws
