pub mod Certifying
pub mod Protections
pub mod WholeProtections
