use Rattle.std.proofs.Common.{◌↔◌, length}
use Rattle.wt_instance.specs.Meeting.{IsNotNull}
use Rattle.wt_instance.proofs.picked.is_not_null.Given as goal

abbrev pub invariant-rows : goal.invariant-rows
invariant-rows l = IsNotNull l.numbers l.rows ↔ IsNotNull l.numbers l.initial.rows

abbrev pub decreases-rows : goal.decreases-rows
decreases-rows l = length l.rows
