pub mod BookViews
pub mod Tables
pub mod BlankMarks
pub mod BookCells
pub mod BookKeeping
pub mod Lending
pub mod Laws
