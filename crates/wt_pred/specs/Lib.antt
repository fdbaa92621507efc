pub mod Tree
pub mod Meaning
pub mod Columns
pub mod Nulls
pub mod Places
pub mod Laws
