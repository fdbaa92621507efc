pub mod Lowered
pub mod OuterFaults
