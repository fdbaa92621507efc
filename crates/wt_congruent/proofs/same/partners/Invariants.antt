use Rattle.std.proofs.Common.{◌↔◌, ◌<◌, ℕ, map}
use Rattle.wt_bag.specs.Choices.{Has, At}
use Rattle.wt_form.specs.Congruent.{RangeSame}
use Rattle.wt_form.specs.Views.{range_seen}
use Rattle.wt_facts.specs.Facts.{known_of}
use Rattle.wt_congruent.specs.Refs.{range_behind}
use Rattle.wt_congruent.proofs.same.partners.Given as goal

abbrev pub invariant-loop-j : goal.invariant-loop-j
invariant-loop-j l = (i : ℕ) → (Has i l.out.items ↔ ((i < l.j) × At (RangeSame (known_of l.facts) (range_seen l.range)) i (map range_behind l.left)))
