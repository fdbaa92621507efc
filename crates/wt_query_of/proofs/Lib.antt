pub mod Counts
pub mod Descents
pub mod Scopes
pub mod Roots
