-- Symbols in classes of the same ones.
use Rattle.std.specs.Prelude.{ℕ, ◌<◌, ◌≡◌, ◌⊎◌, Bool, true, ◌&&◌, cond, List, length, nat_eq, nat_lt, slice_index_or}
use Rattle.wt_constraint.specs.declared.atom.Atom.{Atom}
use Rattle.wt_constraint.specs.declared.atom.Kind.{Kind}
use Rattle.wt_constraint.specs.Atoms.{equal}

-- whether two symbols are of one class; one past the end of the list is of a class of its own
abbrev pub same_class : List ℕ → ℕ → ℕ → Bool
same_class classes i j = cond (nat_lt i (length classes) && nat_lt j (length classes)) (nat_eq (slice_index_or classes i 0) (slice_index_or classes j 0)) (nat_eq i j)

-- the classes of two symbols are made one, and no other
pub record Merged (old new : List ℕ) (x y : ℕ) : Type 0 where
  pub size : length new ≡ length old
  pub at : (j : ℕ) → j < length old → slice_index_or new j 0 ≡ cond (nat_eq (slice_index_or old j 0) (slice_index_or old x 0)) (slice_index_or old y 0) (slice_index_or old j 0)

-- the symbols that the atom makes equal become of one class, if it is asked, and no others
pub record Linked (kind : Kind) (asked : Bool) (atom : Atom) (old new : List ℕ) : Type 0 where
  pub size : length new ≡ length old
  pub kept : (i j : ℕ) → same_class old i j ≡ true → same_class new i j ≡ true
  pub joined : (x y : ℕ) → asked ≡ true → atom ≡ equal kind x y → same_class new x y ≡ true
  pub sound : (i j : ℕ) → same_class new i j ≡ true → (same_class old i j ≡ true) ⊎
      ((x : ℕ) × (y : ℕ) × (asked ≡ true) × (atom ≡ equal kind x y) ×
      (((same_class old i x ≡ true) × (same_class old j y ≡ true)) ⊎ ((same_class old i y ≡ true) × (same_class old j x ≡ true))))
