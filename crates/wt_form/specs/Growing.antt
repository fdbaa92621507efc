-- When more is known.
use Rattle.std.specs.Prelude.{ℕ, ◌≡◌, true}
use Rattle.wt_form.specs.Known.{Known}

-- what K says, L says too
pub record Grows (K L : Known) : Type 0 where
  pub rel : (r s : ℕ) → K.rel r s ≡ true → L.rel r s ≡ true
  pub attr : (a b : ℕ) → K.attr a b ≡ true → L.attr a b ≡ true
  pub pred : (p q : ℕ) → K.pred p q ≡ true → L.pred p q ≡ true
  pub unique : (r a : ℕ) → K.unique r a ≡ true → L.unique r a ≡ true
  pub not_null : (r a : ℕ) → K.not_null r a ≡ true → L.not_null r a ≡ true
  pub refs : (r a s b : ℕ) → K.refs r a s b ≡ true → L.refs r a s b ≡ true
  pub within : (a b : ℕ) → K.within a b ≡ true → L.within a b ≡ true
