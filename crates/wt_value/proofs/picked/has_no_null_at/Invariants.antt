use Rattle.std.proofs.Common.{◌↔◌, length}
use Rattle.wt_value.specs.Values.{HasNoNull, pick}
use Rattle.wt_value.proofs.picked.has_no_null_at.Given as goal

abbrev pub invariant-places : goal.invariant-places
invariant-places l = HasNoNull (pick l.places l.row) ↔ HasNoNull (pick l.initial.places l.row)

abbrev pub decreases-places : goal.decreases-places
decreases-places l = length l.places
