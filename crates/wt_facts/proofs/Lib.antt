pub mod ClassLaws
pub mod Closures
pub mod FactLaws
