pub mod Keeping
pub mod Chained
