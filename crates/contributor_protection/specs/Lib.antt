pub mod ShownAgain
pub mod Guards
pub mod WholeOutcomes
pub mod GuardParts
