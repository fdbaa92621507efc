pub mod Early
pub mod Prints
pub mod Refs
