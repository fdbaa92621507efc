pub mod Order
pub mod Shapes
pub mod Places
