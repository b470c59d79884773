pub mod Files
pub mod Shelves
pub mod Trays
pub mod Reading
pub mod Memory
