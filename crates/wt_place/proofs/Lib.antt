pub mod PlaceSums
pub mod PlaceLaw
pub mod Measured
pub mod Sorting
pub mod NarrowKept
pub mod Fitting
pub mod Regularity
