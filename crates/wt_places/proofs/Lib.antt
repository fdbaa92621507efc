pub mod GainedLaws
pub mod Splits
pub mod PlaceLaws
