use Rattle.std.proofs.Common.{◌≤◌, ◌↔◌, take}
use Rattle.wt_bag.specs.Choices.{Has}
use Rattle.wt_constraint.specs.declared.set.AtomSet.{AtomSet}
use Rattle.wt_cores.specs.SetLists.{Ascending}
use Rattle.wt_cores.specs.Cores.{missing}
use Rattle.wt_cores.proofs.rules.those_within.Given as goal

abbrev pub invariant-loop-set : goal.invariant-loop-set
invariant-loop-set l = record {
  sets : (s : AtomSet) → (Has s l.rules.items ↔ (Has s (take l.set-index l.sets) × (missing 64 l.all s ≤ l.depth)));
  order : Ascending l.rules.items;
}
