use Rattle.std.proofs.Common.{◌↔◌, length}
use Rattle.wt_value.specs.Values.{Matches, pick}
use Rattle.wt_value.proofs.picked.agree_at.Given as goal

abbrev pub invariant-places : goal.invariant-places
invariant-places l = Matches (pick l.places l.a) (pick l.others l.b) ↔ Matches (pick l.initial.places l.a) (pick l.initial.others l.b)

abbrev pub decreases-places : goal.decreases-places
decreases-places l = length l.places
