use Rattle.std.proofs.Common.{◌↔◌, length, ◌≡◌, true}
use Rattle.wt_bag.specs.Bags.{among, Each}
use Rattle.wt_value.specs.Values.{row_same}
use Rattle.wt_instance.proofs.meeting.are_among.Given as goal

abbrev pub invariant-rows : goal.invariant-rows
invariant-rows l = Each (λ row. among row_same l.others row ≡ true) l.rows ↔ Each (λ row. among row_same l.others row ≡ true) l.initial.rows

abbrev pub decreases-rows : goal.decreases-rows
decreases-rows l = length l.rows
