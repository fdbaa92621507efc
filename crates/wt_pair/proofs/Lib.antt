pub mod AnchorLemmas
pub mod DestLemmas
pub mod BoundLemmas
pub mod WalkLemmas
pub mod LotLemmas
