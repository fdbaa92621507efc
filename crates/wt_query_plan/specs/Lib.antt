pub mod Building
pub mod Standing
pub mod Faults
pub mod Telling
