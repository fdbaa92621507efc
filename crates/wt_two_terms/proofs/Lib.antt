pub mod SplitLaws
pub mod PairLaws
