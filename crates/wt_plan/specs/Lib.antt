pub mod Tree
pub mod Measures
pub mod Rows
pub mod WellFormed
pub mod Regular
