pub mod Together
pub mod JoinTotals
pub mod Upto
pub mod Widths
pub mod Narrowness
