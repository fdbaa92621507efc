pub mod FormRows
pub mod Holding
pub mod Keeping
pub mod Fits
