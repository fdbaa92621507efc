use Rattle.std.proofs.Common.{◌≡◌, length}
use Rattle.wt_ddl.specs.Linking.{same_kinds}
use Rattle.wt_ddl.proofs.linking.same_kinds.Given as goal

abbrev pub invariant-pairs : goal.invariant-pairs
invariant-pairs l = same_kinds l.here l.from l.there l.to ≡ same_kinds l.here l.initial.from l.there l.initial.to

abbrev pub decreases-pairs : goal.decreases-pairs
decreases-pairs l = length l.from
