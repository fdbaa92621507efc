-- The atoms that a rule asks for are those of its set.
use Rattle.std.proofs.Common.{◌≡◌, ℕ, zero, suc, ◌+◌, Bool, true, false, List, [], ◌∷◌, ◌++◌, refl, subst, arith}
use Rattle.std.specs.Prelude.{◌==◌, slice_get, Some, if◌then◌else◌}
use Rattle.std.specs.Int.{bit_at}
use Rattle.std.proofs.lemmas.Bool.{false≢true}
use Rattle.std.proofs.lemmas.Grind.{common_steps}
use Rattle.wt_bag.specs.Bags.{Each}
use Rattle.wt_bag.proofs.EachLaws.{each_append, each_append_left, each_append_right, each_filter}
use Rattle.wt_symbol.specs.Sides.{PairTree}
use Rattle.wt_constraint.specs.declared.atom.Atom.{Atom}
use Rattle.wt_constraint.specs.declared.atom.Atom.TheVariants.{RelEq, AttrsEq, PredEq, Unique, NotNull, RefAttrs}
use Rattle.wt_constraint.specs.declared.set.AtomSet.{AtomSet}
use Rattle.wt_constraint.specs.Atoms.{atoms_of_pair}
use Rattle.wt_constraint.specs.Sets.{HasAtom}
use Rattle.wt_rule.specs.Texts.{chosen}
use Rattle.wt_known.proofs.Agreeing.{eq_true}
use Rattle.wt_match.specs.Asking.{rank, of_rank, ranked, asked}

module _ (P : Atom → Type 0) where
  -- of those with a rank each holds
  OfRank : ℕ → List Atom → Type 0
  OfRank r atoms = Each P (of_rank r atoms)

  head_of_rank : (r : ℕ) (b : Bool) (a : Atom) (atoms : List Atom) → Each P (if b then a ∷ atoms else atoms) → b ≡ true → P a
  head_of_rank r true a atoms h e = h.0
  head_of_rank r false a atoms h e = absurd (false≢true e)

  tail_of_rank : (b : Bool) (a : Atom) (atoms : List Atom) → Each P (if b then a ∷ atoms else atoms) → Each P atoms
  tail_of_rank true a atoms h = h.1
  tail_of_rank false a atoms h = h

  each_rank : (atoms : List Atom) → Each P (of_rank 0 atoms) → Each P (of_rank 1 atoms) → Each P (of_rank 2 atoms) → Each P (of_rank 3 atoms) → Each P (of_rank 4 atoms) → Each P (of_rank 5 atoms) → Each P atoms
  each_rank [] a b c d e f = tt
  each_rank (AttrsEq x y ∷ atoms) a b c d e f = (a.0, each_rank atoms a.1 b c d e f)
  each_rank (PredEq x y ∷ atoms) a b c d e f = (b.0, each_rank atoms a b.1 c d e f)
  each_rank (RelEq x y ∷ atoms) a b c d e f = (c.0, each_rank atoms a b c.1 d e f)
  each_rank (NotNull x ∷ atoms) a b c d e f = (d.0, each_rank atoms a b c d.1 e f)
  each_rank (Unique x ∷ atoms) a b c d e f = (e.0, each_rank atoms a b c d e.1 f)
  each_rank (RefAttrs x y ∷ atoms) a b c d e f = (f.0, each_rank atoms a b c d e f.1)

  from_ranked : (atoms : List Atom) → Each P (ranked atoms) → Each P atoms
  from_ranked atoms h =
      let four = each_append_left P (of_rank 0 atoms ++ of_rank 1 atoms ++ of_rank 2 atoms ++ of_rank 3 atoms ++ of_rank 4 atoms) (of_rank 5 atoms) h in
      let three = each_append_left P (of_rank 0 atoms ++ of_rank 1 atoms ++ of_rank 2 atoms ++ of_rank 3 atoms) (of_rank 4 atoms) four in
      let two = each_append_left P (of_rank 0 atoms ++ of_rank 1 atoms ++ of_rank 2 atoms) (of_rank 3 atoms) three in
      let one = each_append_left P (of_rank 0 atoms ++ of_rank 1 atoms) (of_rank 2 atoms) two in
      each_rank atoms (each_append_left P (of_rank 0 atoms) (of_rank 1 atoms) one) (each_append_right P (of_rank 0 atoms) (of_rank 1 atoms) one)
      (each_append_right P (of_rank 0 atoms ++ of_rank 1 atoms) (of_rank 2 atoms) two)
      (each_append_right P (of_rank 0 atoms ++ of_rank 1 atoms ++ of_rank 2 atoms) (of_rank 3 atoms) three)
      (each_append_right P (of_rank 0 atoms ++ of_rank 1 atoms ++ of_rank 2 atoms ++ of_rank 3 atoms) (of_rank 4 atoms) four)
      (each_append_right P (of_rank 0 atoms ++ of_rank 1 atoms ++ of_rank 2 atoms ++ of_rank 3 atoms ++ of_rank 4 atoms) (of_rank 5 atoms) h)

  to_ranked : (atoms : List Atom) → Each P atoms → Each P (ranked atoms)
  to_ranked atoms h =
      let one = λ (r : ℕ). each_filter P (λ atom. rank atom == r) atoms h in
      each_append P (of_rank 0 atoms ++ of_rank 1 atoms ++ of_rank 2 atoms ++ of_rank 3 atoms ++ of_rank 4 atoms) (of_rank 5 atoms)
      (each_append P (of_rank 0 atoms ++ of_rank 1 atoms ++ of_rank 2 atoms ++ of_rank 3 atoms) (of_rank 4 atoms)
      (each_append P (of_rank 0 atoms ++ of_rank 1 atoms ++ of_rank 2 atoms) (of_rank 3 atoms)
      (each_append P (of_rank 0 atoms ++ of_rank 1 atoms) (of_rank 2 atoms) (each_append P (of_rank 0 atoms) (of_rank 1 atoms) (one 0) (one 1)) (one 2)) (one 3)) (one 4)) (one 5)

  chosen_known : (set : AtomSet) (i : ℕ) (atoms : List Atom) → Each P (chosen set i atoms) → (k : ℕ) (a : Atom) → HasAtom set (i + k) → slice_get atoms k ≡ Some a → P a
  chosen_known set i [] h k a has get = cc
  chosen_known set i (atom ∷ atoms) h zero a has get =
      head_of_rank 0 (bit_at set.0 i == 1) a (chosen set (suc i) atoms) (subst (λ z. Each P (if bit_at set.0 i == 1 then z ∷ chosen set (suc i) atoms else chosen set (suc i) atoms)) (first get) h) (is_one (bit_at set.0 i) (subst (λ j. bit_at set.0 j ≡ 1) (add_zero i) has.bit))
    where
      first : Some atom ≡ Some a → atom ≡ a
      first e = cc

      add_zero : (i : ℕ) → i + 0 ≡ i
      add_zero i = omega arith

      is_one : (n : ℕ) → n ≡ 1 → (n == 1) ≡ true
      is_one n e = grind (arith, common_steps)
  chosen_known set i (atom ∷ atoms) h (suc k) a has get =
      chosen_known set (suc i) atoms (tail_of_rank (bit_at set.0 i == 1) atom (chosen set (suc i) atoms) h) k a (record { bit = subst (λ j. bit_at set.0 j ≡ 1) (moved i k) has.bit }) get
    where
      moved : (i k : ℕ) → i + suc k ≡ suc i + k
      moved i k = omega arith

  known_chosen : (set : AtomSet) (i : ℕ) (atoms : List Atom) → ((k : ℕ) (a : Atom) → HasAtom set (i + k) → slice_get atoms k ≡ Some a → P a) → Each P (chosen set i atoms)
  known_chosen set i [] h = tt
  known_chosen set i (atom ∷ atoms) h = here (bit_at set.0 i == 1) refl (known_chosen set (suc i) atoms (λ k a has get. h (suc k) a (record { bit = subst (λ j. bit_at set.0 j ≡ 1) (moved i k) has.bit }) get))
    where
      moved : (i k : ℕ) → suc i + k ≡ i + suc k
      moved i k = omega arith

      here : (b : Bool) → (bit_at set.0 i == 1) ≡ b → Each P (chosen set (suc i) atoms) → Each P (if b then atom ∷ chosen set (suc i) atoms else chosen set (suc i) atoms)
      here true e rest = (h 0 atom (record { bit = subst (λ j. bit_at set.0 j ≡ 1) (zeroed i) (eq_true (bit_at set.0 i) 1 e) }) refl, rest)
        where
          zeroed : (i : ℕ) → i ≡ i + 0
          zeroed i = omega arith
      here false e rest = rest

  pub asked_known : (p : PairTree) (set : AtomSet) → Each P (asked p set) → (k : ℕ) (a : Atom) → HasAtom set k → slice_get (atoms_of_pair p) k ≡ Some a → P a
  asked_known p set h k a has get = chosen_known set 0 (atoms_of_pair p) (from_ranked (chosen set 0 (atoms_of_pair p)) h) k a (record { bit = subst (λ j. bit_at set.0 j ≡ 1) (from_zero k) has.bit }) get
    where
      from_zero : (k : ℕ) → k ≡ 0 + k
      from_zero k = omega arith

  pub known_asked : (p : PairTree) (set : AtomSet) → ((k : ℕ) (a : Atom) → HasAtom set k → slice_get (atoms_of_pair p) k ≡ Some a → P a) → Each P (asked p set)
  known_asked p set h = to_ranked (chosen set 0 (atoms_of_pair p)) (known_chosen set 0 (atoms_of_pair p) (λ k a has get. h k a (record { bit = subst (λ j. bit_at set.0 j ≡ 1) (to_zero k) has.bit }) get))
    where
      to_zero : (k : ℕ) → 0 + k ≡ k
      to_zero k = omega arith
