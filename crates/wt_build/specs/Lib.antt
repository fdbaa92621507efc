pub mod Plans
pub mod Walk
