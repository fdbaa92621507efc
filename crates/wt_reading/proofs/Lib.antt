pub mod Complete
pub mod Inversions
pub mod OneKind
pub mod Loops
pub mod Took
