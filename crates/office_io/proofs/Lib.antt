mod Places
pub mod Puts
mod Told
pub mod Shelves
