pub mod Holding
pub mod Having
pub mod TableSigns
