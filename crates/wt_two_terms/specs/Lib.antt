pub mod Splits
pub mod Pairs
