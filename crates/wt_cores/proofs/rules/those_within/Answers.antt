use Rattle.std.proofs.Common.{◌≤◌, ◌↔◌, inl, inr, subst}
use Rattle.std.proofs.lemmas.List.{take_all}
use Rattle.wt_bag.specs.Choices.{Has}
use Rattle.wt_constraint.specs.declared.set.AtomSet.{AtomSet}
use Rattle.wt_cores.specs.Cores.{missing}
use Rattle.wt_cores.proofs.Gaining.{has_more, has_before}
use Rattle.wt_cores.proofs.rules.those_within.Goals as goal

pub loop-set-preserved : goal.loop-set-preserved
loop-set-preserved c = record {
  sets = λ s. (
    λ h. elim ((c.in_ok-push_within.ensures.gains s).0 h) [
      | inl old ↦ let q = (c.loop-set.invariant.sets s).0 old in (has_more s c.args.sets.now c.loop-set.set-index (record { 0 = 0 }) c.loop-set-test.true (inl q.0), q.1)
      | inr q ↦ (has_more s c.args.sets.now c.loop-set.set-index (record { 0 = 0 }) c.loop-set-test.true (inr q.0), q.1)
    ],
    λ q. elim (has_before s c.args.sets.now c.loop-set.set-index (record { 0 = 0 }) c.loop-set-test.true q.0) [
      | inl old ↦ (c.in_ok-push_within.ensures.gains s).1 (inl ((c.loop-set.invariant.sets s).1 (old, q.1)))
      | inr e ↦ (c.in_ok-push_within.ensures.gains s).1 (inr (e, q.1))
    ],
  );
  order = c.in_ok-push_within.ensures.ascending;
}

pub returns-clause-sets : goal.returns-clause-sets
returns-clause-sets c = subst (λ xs. (s : AtomSet) → (Has s c.loop-set.rules.items ↔ (Has s xs × (missing 64 c.args.all s ≤ c.args.depth)))) (take_all c.loop-set.set-index c.args.sets.now c.loop-set-test.false) c.loop-set.invariant.sets
