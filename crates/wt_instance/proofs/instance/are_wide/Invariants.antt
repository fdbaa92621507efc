use Rattle.std.proofs.Common.{◌↔◌, length, ◌≡◌}
use Rattle.wt_bag.specs.Bags.{Each}
use Rattle.wt_instance.proofs.instance.are_wide.Given as goal

abbrev pub invariant-rows : goal.invariant-rows
invariant-rows l = Each (λ row. length row ≡ l.width) l.rows ↔ Each (λ row. length row ≡ l.width) l.initial.rows

abbrev pub decreases-rows : goal.decreases-rows
decreases-rows l = length l.rows
