pub mod Filling
pub mod Nodes
pub mod Matching
pub mod Finding
