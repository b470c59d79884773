pub mod Ranges
pub mod OneRule
pub mod Naming
pub mod EnoughForRules
pub mod Units
pub mod Strictness
pub mod Contributors
pub mod PriorPosterior
