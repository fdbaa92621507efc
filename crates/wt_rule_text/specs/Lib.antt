pub mod Numbers
pub mod Reading
pub mod Trees
pub mod Given
pub mod Forms
