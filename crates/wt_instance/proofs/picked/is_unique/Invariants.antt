use Rattle.std.proofs.Common.{◌↔◌, length}
use Rattle.wt_instance.specs.Meeting.{IsUnique}
use Rattle.wt_instance.proofs.picked.is_unique.Given as goal

abbrev pub invariant-rows : goal.invariant-rows
invariant-rows l = IsUnique l.numbers l.rows ↔ IsUnique l.numbers l.initial.rows

abbrev pub decreases-rows : goal.decreases-rows
decreases-rows l = length l.rows
