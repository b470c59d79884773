pub mod Contributors
pub mod ReleaseFiles
pub mod Cases
pub mod Reading
pub mod GuardedReleases
pub mod Answers
pub mod Accepted
