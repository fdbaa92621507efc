pub mod Inside
pub mod Joins
