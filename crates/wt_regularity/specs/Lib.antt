pub mod Widths
pub mod Kinds
pub mod Order
pub mod Predicates
pub mod Deciding
