use Rattle.std.proofs.Common.{◌≡◌, length}
use Rattle.wt_known.specs.Sets as sets
use Rattle.wt_props.proofs.references.pairs_within.Given as goal

abbrev pub invariant-xs : goal.invariant-xs
invariant-xs l = sets.pairs_within l.xs l.ys l.others l.targets ≡ sets.pairs_within l.initial.xs l.initial.ys l.others l.targets

abbrev pub decreases-xs : goal.decreases-xs
decreases-xs l = length l.xs
