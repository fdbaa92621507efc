pub mod Lawful
pub mod Lookup
pub mod Satisfying
