use Rattle.std.proofs.Common.{◌↔◌, length, ◌≡◌, false}
use Rattle.wt_bag.specs.Bags.{Each}
use Rattle.wt_value.specs.Values.{pick, row_matches}
use Rattle.wt_instance.proofs.picked.matches_none.Given as goal

abbrev pub invariant-others : goal.invariant-others
invariant-others l = Each (λ other. row_matches (pick l.numbers l.row) (pick l.numbers other) ≡ false) l.others ↔ Each (λ other. row_matches (pick l.numbers l.row) (pick l.numbers other) ≡ false) l.initial.others

abbrev pub decreases-others : goal.decreases-others
decreases-others l = length l.others
