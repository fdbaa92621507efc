pub mod MaskLemmas
pub mod SymbolLemmas
