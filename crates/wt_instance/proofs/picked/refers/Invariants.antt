use Rattle.std.proofs.Common.{◌↔◌, length}
use Rattle.wt_instance.specs.Meeting.{Refers}
use Rattle.wt_instance.proofs.picked.refers.Given as goal

abbrev pub invariant-rows : goal.invariant-rows
invariant-rows l = Refers l.numbers l.other_numbers l.rows l.others ↔ Refers l.numbers l.other_numbers l.initial.rows l.others

abbrev pub decreases-rows : goal.decreases-rows
decreases-rows l = length l.rows
