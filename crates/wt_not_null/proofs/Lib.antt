pub mod Respects
pub mod Nulls
