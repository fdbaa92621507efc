pub mod QueryLaws
pub mod Lined
