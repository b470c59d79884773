pub mod Spellable
pub mod Protecting
pub mod CertificateLists
pub mod Wholeness
