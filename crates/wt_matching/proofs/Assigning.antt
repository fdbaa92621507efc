-- The instance of the assigned plans' rows, and what an assignment covers.
use Rattle.std.specs.Prelude.{ℕ, zero, suc, ◌<◌, List, [], ◌∷◌, map, filter, flat_map, length}
use Rattle.wt_value.specs.declared.value.Value.{Value}
use Rattle.wt_value.specs.declared.value.Value.TheVariants.{Null}
use Rattle.wt_value.specs.Values.{Tuple}
use Rattle.wt_pred.specs.Tree.{PredTree}
use Rattle.wt_pred.specs.Meaning.{truth}
use Rattle.wt_symbol.specs.Sides as sides
use Rattle.wt_symbol.specs.Sides.{SideTree, PairTree}
use Rattle.wt_symbol.specs.Heads.{anchor}
use Rattle.wt_constraint.specs.declared.atom.Atom.{Atom}
use Rattle.wt_constraint.specs.declared.atom.Atom.TheVariants.{RelEq, AttrsEq, PredEq, Unique, NotNull, RefAttrs}
use Rattle.wt_instance.specs.declared.instance.Instance.{Instance}
use Rattle.wt_plan.specs.Measures.{width}
use Rattle.wt_plan.specs.Rows.{plan_rows}
use Rattle.wt_matching.specs.Filling.{Assigned}
use Rattle.wt_matching.proofs.Lists.{is_so}

-- every row of so many of the values
abbrev pub all_rows : List Value → ℕ → List Tuple
all_rows vs zero = [] ∷ []
all_rows vs (suc k) = flat_map (λ v. map (λ row. v ∷ row) (all_rows vs k)) vs

-- NULL, and each value of a row of a leaf's plan
abbrev pub values_of : List (List Tuple) → Assigned → List Value
values_of base m = Null ∷ flat_map (λ p. flat_map (λ row. row) (plan_rows base p)) m.leaves

-- the rows over these values, as long as one of the lists, on which the predicate is True
abbrev pub true_rows : List (List Tuple) → Assigned → PredTree → List Tuple
true_rows base m f = filter (λ row. is_so (truth f row)) (flat_map (λ list. all_rows (values_of base m) (length list)) m.lists)

-- the instance of the assigned plans' rows
abbrev pub instance_of : List (List Tuple) → Assigned → Instance
instance_of base m = record { widths = map width m.leaves; tables = map (plan_rows base) m.leaves; lists = m.lists; trues = map (true_rows base m) m.preds }

-- the symbols of the side have something assigned
abbrev pub Covers : Assigned → SideTree → Type 0
Covers m (sides.input r) = r < length m.leaves
Covers m (sides.proj a s) = (a < length m.lists) × Covers m s
Covers m (sides.filtered p a s) = (p < length m.preds) × (a < length m.lists) × Covers m s
Covers m (sides.inner_join a b s t) = (a < length m.lists) × (b < length m.lists) × Covers m s × Covers m t
Covers m (sides.left_join a b s t) = (a < length m.lists) × (b < length m.lists) × Covers m s × Covers m t
Covers m (sides.in_sub a s t) = (a < length m.lists) × Covers m s × Covers m t
Covers m (sides.dedup s) = Covers m s

-- the symbols of an atom have something assigned
abbrev pub AtomCovered : List ℕ → Assigned → Atom → Type 0
AtomCovered A m (RelEq r s) = (r < length m.leaves) × (s < length m.leaves)
AtomCovered A m (AttrsEq a b) = Unit {0}
AtomCovered A m (PredEq p q) = (p < length m.preds) × (q < length m.preds)
AtomCovered A m (Unique a) = anchor A a < length m.leaves
AtomCovered A m (NotNull a) = anchor A a < length m.leaves
AtomCovered A m (RefAttrs a b) = (anchor A a < length m.leaves) × (anchor A b < length m.leaves)
