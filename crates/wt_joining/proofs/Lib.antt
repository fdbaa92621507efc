pub mod Lists
pub mod WritingLaws
pub mod InLaws
pub mod OneLaws
