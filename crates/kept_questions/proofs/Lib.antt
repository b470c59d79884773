mod Stopping
pub mod TermSums
pub mod SideSums
pub mod FormSums
pub mod LabelChecks
pub mod PairChecks
pub mod WeightTerms
