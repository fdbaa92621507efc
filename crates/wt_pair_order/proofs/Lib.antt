pub mod Apart
pub mod Pairs
pub mod Sides
pub mod Templates
pub mod Trees
