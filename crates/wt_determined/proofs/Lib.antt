pub mod PieceLaws
pub mod HeldLaws
pub mod ClosingLaws
pub mod LinkLaws
