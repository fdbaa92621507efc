pub mod Elements
pub mod Plain
pub mod Readings
pub mod Settling
pub mod Statements
pub mod Targets
pub mod Texts
pub mod Words
