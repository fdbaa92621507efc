pub mod Putting
pub mod Inputs
