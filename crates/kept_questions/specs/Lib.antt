pub mod KeptAnswers
pub mod TermLists
pub mod Checks
