-- A FROM item in scope, as contracts see it.
use Rattle.std.specs.Prelude.{ℕ, List}

pub record Item : Type 0 where
  pub alias : List ℕ
  pub names : List (List ℕ)

abbrev pub item : List ℕ → List (List ℕ) → Item
item alias names = record { alias = alias; names = names }
