pub mod Truths
pub mod Drops
