pub mod Lead
pub mod LeadText
pub mod LeadPath
pub mod CodeList
pub mod Laws
