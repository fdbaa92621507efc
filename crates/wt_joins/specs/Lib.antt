pub mod Parts
pub mod Commas
pub mod Wholes
