pub mod Lookups
pub mod Befores
