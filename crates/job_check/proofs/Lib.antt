pub mod ContributorsRead
pub mod ReleaseReading
pub mod Judgements
pub mod CaseParts
pub mod GuardedParts
pub mod SameBook
pub mod Accepting
