pub mod TruthLaws
pub mod DropLaws
