pub mod ShownCells
pub mod Lines
pub mod Pages
pub mod Laws
pub mod LineChoices
pub mod ReleaseReading
pub mod Sheets
pub mod ReadingLaws
