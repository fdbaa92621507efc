pub mod PlaceLemmas
pub mod OrderLemmas
pub mod RootLemmas
pub mod TemplateLemmas
