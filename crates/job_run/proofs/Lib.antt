pub mod Showing
pub mod TableSteps
pub mod SameBook
pub mod Releasing
pub mod Bases
pub mod SameSystem
pub mod JobTruths
pub mod RoundedJobs
pub mod ShownLaws
pub mod KnownCells
mod GuardingTables
pub mod GuardedJobs
pub mod Outcomes
mod CommandRuns
pub mod Settling
pub mod Words
pub mod ReleaseRuns
pub mod SecondRuns
pub mod JobsRead
pub mod PutFiles
mod TotalSums
mod PromisedCells
mod PromisedTables
pub mod PromiseKept
pub mod DemoJobs
pub mod DemoRuns
pub mod CheckRuns
mod AcceptedTables
pub mod IntervalRuns
pub mod AuditRuns
mod Migrations
pub mod PutSteps
pub mod TermTexts
