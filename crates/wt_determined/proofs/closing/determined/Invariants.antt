use Rattle.std.proofs.Common.{ℕ, ◌<◌, ◌⊎◌, map, length}
use Rattle.std.specs.Prelude.{vec_len}
use Rattle.wt_bag.specs.Choices.{Has}
use Rattle.wt_form.specs.Parts.{ranges_list}
use Rattle.wt_form.specs.Facts.{Determined}
use Rattle.wt_form.specs.Views.{ranges_seen}
use Rattle.wt_facts.specs.Facts.{known_of}
use Rattle.wt_congruent.specs.Refs.{cond_behind}
use Rattle.wt_determined.proofs.closing.determined.Given as goal

abbrev pub invariant-rounds : goal.invariant-rounds
invariant-rounds l = record {
  sound : (v : ℕ) → Has v l.vars.items → Determined (known_of l.facts) (ranges_list (ranges_seen l.ranges)) (map cond_behind l.conds) l.pieces v;
  each : (v : ℕ) → v < length (ranges_list (ranges_seen l.ranges)) → Has v l.vars.items ⊎ Has v l.left.items;
}

abbrev pub decreases-rounds : goal.decreases-rounds
decreases-rounds l = vec_len l.left
