use Rattle.std.proofs.Common.{◌≡◌, length}
use Rattle.wt_known.specs.Sets as sets
use Rattle.wt_props.proofs.references.all_alike.Given as goal

abbrev pub invariant-xs : goal.invariant-xs
invariant-xs l = sets.all_alike l.xs l.ys ≡ sets.all_alike l.initial.xs l.initial.ys

abbrev pub decreases-xs : goal.decreases-xs
decreases-xs l = length l.xs
