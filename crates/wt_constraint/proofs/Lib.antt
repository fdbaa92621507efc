pub mod SetLemmas
pub mod SameLemmas
pub mod AtomLemmas
