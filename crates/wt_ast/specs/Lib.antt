pub mod Tree
pub mod Conjuncts
pub mod Marks
pub mod Lawful
pub mod Private
