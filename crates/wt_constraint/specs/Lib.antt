pub mod Atoms
pub mod Sets
pub mod Sameness
