-- The two sides of a rule give one bag, since a rule has a proof.
use Rattle.std.proofs.Common.{ℕ, zero, suc, inl, inr}
use Rattle.wt_symbol.specs.Sides.{PairTree}
use Rattle.wt_constraint.specs.declared.set.AtomSet.{AtomSet}
use Rattle.wt_form.specs.Relaxed.{Relaxed}
use Rattle.wt_form.specs.Under.{Provable}
use Rattle.wt_rows.proofs.Composed.{provable_one_bag}
use Rattle.wt_tool.specs.Laws.{RulesHaveOneBag}

has_proof : (p : PairTree) (k depth : ℕ) (s : AtomSet) → Relaxed p k depth s → Provable p s k
has_proof p k zero s h = h.1
has_proof p k (suc depth) s (inl h) = has_proof p k depth s h
has_proof p k (suc depth) s (inr h) = h.4

pub rules_have_one_bag : RulesHaveOneBag
rules_have_one_bag pair steps depth set I lawful rule is meets = provable_one_bag pair lawful set I is meets steps (has_proof pair steps depth set rule.relaxed)
