pub mod Tables
pub mod Holding
pub mod Keyed
pub mod CellCounts
pub mod SignedTables
