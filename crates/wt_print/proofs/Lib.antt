pub mod Chaining
pub mod Telling
