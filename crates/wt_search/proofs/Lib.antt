pub mod Growing
pub mod Meeting
pub mod PieceLaws
pub mod Reaching
pub mod Rounds
pub mod Shrinking
