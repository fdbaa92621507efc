pub mod OneFile
pub mod Counted
