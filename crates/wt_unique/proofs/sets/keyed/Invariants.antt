use Rattle.std.proofs.Common.{◌≡◌, take, map}
use Rattle.wt_unique.specs.Asking.{has_key}
use Rattle.wt_unique.proofs.sets.keyed.Given as goal

abbrev pub invariant-loop-set : goal.invariant-loop-set
invariant-loop-set l = l.out ≡ map (has_key l.tables l.number) (take l.set-index l.set-items)
