pub mod Sames
pub mod Facts
