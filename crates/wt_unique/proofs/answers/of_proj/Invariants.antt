use Rattle.std.proofs.Common.{◌≡◌, ◌++◌, map, length}
use Rattle.wt_known.specs.Sets.{all_below}
use Rattle.wt_unique.specs.Answering.{both_each}
use Rattle.wt_unique.proofs.answers.of_proj.Given as goal

abbrev pub invariant-sets : goal.invariant-sets
invariant-sets l = l.out ++ both_each (map (all_below (length l.list)) l.sets) l.inner ≡ both_each (map (all_below (length l.list)) l.initial.sets) l.initial.inner

abbrev pub decreases-sets : goal.decreases-sets
decreases-sets l = length l.sets
