pub mod JoinLaws
pub mod PlaceSteps
pub mod RowLaws
pub mod OnceLaws
