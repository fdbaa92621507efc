pub mod Renumbering
pub mod Conjuncts
pub mod Joined
pub mod Conditions
pub mod Items
pub mod Regulars
