pub mod Arcs
pub mod Networks
pub mod Balances
