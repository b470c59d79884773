pub mod LeadPaths
pub mod LeadSteps
pub mod LeadLines
pub mod LeadLaw
pub mod ListSteps
pub mod ListLaw
