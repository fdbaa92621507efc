pub mod Within
pub mod Exist
pub mod NoGreater
