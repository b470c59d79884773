pub mod Listing
pub mod Saying
pub mod Concluding
