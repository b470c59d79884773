pub mod Lowering
pub mod Farthest
pub mod Intervals
pub mod IntervalFaults
pub mod IntervalTexts
pub mod Laws
