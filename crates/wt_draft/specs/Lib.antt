pub mod Drafts
pub mod Roots
