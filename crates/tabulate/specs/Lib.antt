pub mod MarkRecords
pub mod RecordsByPlace
pub mod EmptyLists
pub mod UpperCells
pub mod TabulatedMarks
