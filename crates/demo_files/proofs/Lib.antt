pub mod Drawing
pub mod Folders
