use Rattle.std.proofs.Common.{◌≡◌, take, map}
use Rattle.wt_known.specs.Sets.{listed_at}
use Rattle.wt_unique.proofs.sets.listed.Given as goal

abbrev pub invariant-loop-set : goal.invariant-loop-set
invariant-loop-set l = l.out ≡ map (listed_at l.list) (take l.set-index l.set-items)
