pub mod Knowing
pub mod CappedLaws
