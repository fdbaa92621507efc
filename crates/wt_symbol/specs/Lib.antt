pub mod Sides
pub mod Lawful
pub mod Heads
