pub mod Divisors
pub mod Reaching
pub mod Bounding
pub mod WholeIntervals
pub mod OneFile
pub mod Listing
pub mod Components
mod Sizes
