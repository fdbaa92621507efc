pub mod Candidates
pub mod Walk
pub mod Dests
pub mod Track
pub mod Lots
