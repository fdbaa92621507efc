use Rattle.std.proofs.Common.{◌≡◌, length}
use Rattle.wt_known.specs.Sets as sets
use Rattle.wt_props.proofs.references.has_pair.Given as goal

abbrev pub invariant-xs : goal.invariant-xs
invariant-xs l = sets.has_pair l.x l.y l.xs l.ys ≡ sets.has_pair l.x l.y l.initial.xs l.initial.ys

abbrev pub decreases-xs : goal.decreases-xs
decreases-xs l = length l.xs
