pub mod ReaderFaults
pub mod Readers
pub mod Audits
pub mod AuditFaults
pub mod EndValues
pub mod AuditTexts
pub mod Laws
pub mod Exposures
