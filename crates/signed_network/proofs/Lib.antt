pub mod Arcing
mod Touching
pub mod Balances
