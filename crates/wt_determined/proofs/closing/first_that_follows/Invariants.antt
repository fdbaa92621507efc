use Rattle.std.proofs.Common.{ℕ, ◌<◌, map, get_or}
use Rattle.wt_form.specs.Parts.{ranges_list}
use Rattle.wt_form.specs.Views.{ranges_seen}
use Rattle.wt_congruent.specs.Refs.{cond_behind}
use Rattle.wt_determined.specs.Linked.{Follows}
use Rattle.wt_determined.proofs.closing.first_that_follows.Given as goal

abbrev pub invariant-loop-j : goal.invariant-loop-j
invariant-loop-j l = (i : ℕ) → i < l.j → Follows l.facts (ranges_list (ranges_seen l.ranges)) (map cond_behind l.conds) l.pieces l.vars (get_or l.left i 0) → ⊥
