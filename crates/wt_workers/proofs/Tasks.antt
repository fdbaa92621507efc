-- What is handed to a worker is so.
use Rattle.std.proofs.Common.{◌≡◌, ℕ, zero, suc, refl, sym, ap, ◌∙◌, subst, arith, List, [], ◌∷◌, length}
use Rattle.std.specs.Prelude.{Some, slice_get}
use Rattle.wt_symbol.specs.Sides.{PairTree}
use Rattle.wt_constraint.specs.declared.set.AtomSet.{AtomSet}
use Rattle.wt_cores.specs.Cores.{Within, all_atoms}
use Rattle.wt_board.specs.declared.words.Entry.{Entry}
use Rattle.wt_board.specs.Lots.{LotTree}
use Rattle.wt_board.specs.Machine.{State, LogStands, Pending}
use Rattle.wt_board.specs.Boards.{AreNeeded}
use Rattle.wt_board.proofs.Sets.{some_same, none_some}
use Rattle.wt_board.proofs.Findings.{known_refused}
use Rattle.wt_workers.specs.Tasks.{AreNeededBy}

-- a list of one pair has it at no place but the first
pub only_first : (pairs : List PairTree) (p : ℕ) (pair : PairTree) → length pairs ≡ 1 → slice_get pairs p ≡ Some pair → p ≡ 0
only_first [] p pair one at = absurd (none_some pair at)
only_first (x ∷ xs) zero pair one at = refl
only_first (x ∷ []) (suc p) pair one at = absurd (none_some pair at)
only_first (x ∷ y ∷ xs) (suc p) pair one at = absurd (let bad : ⊥ = omega (arith, one) in bad)

module _ (lot : LotTree) (pair : PairTree) (one : length lot.pairs ≡ 1) (at : slice_get lot.pairs 0 ≡ Some pair) where
  pub pending_within : (st : State) (p : ℕ) (s : AtomSet) → Pending lot st p s → (p ≡ 0) × Within s (all_atoms pair)
  pending_within st p s h =
      let first = only_first lot.pairs p h.pair one h.at in
      let same : h.pair ≡ pair = some_same h.pair pair (sym h.at ∙ ap (slice_get lot.pairs) first ∙ at) in
      (first, subst (λ x. Within s (all_atoms x)) same h.within)

  pub needed_by : (log : List Entry) → LogStands lot log → (s needed : AtomSet) → AreNeeded 0 log s needed → AreNeededBy pair lot.bounds.steps s needed
  needed_by log stands s needed h i t there leaves = known_refused lot 0 pair at log stands t (h i t there leaves)

-- a list of one pair
pub one_is : (pairs : List PairTree) (pair : PairTree) → length pairs ≡ 1 → slice_get pairs 0 ≡ Some pair → pairs ≡ pair ∷ []
one_is [] pair one at = absurd (none_some pair at)
one_is (x ∷ []) pair one at = ap (λ y. y ∷ []) (some_same x pair at)
one_is (x ∷ y ∷ xs) pair one at = absurd (let bad : ⊥ = omega (arith, one) in bad)
