use Rattle.std.proofs.Common.{◌↔◌, length, ◌≢◌, []}
use Rattle.wt_bag.specs.Bags.{Each}
use Rattle.wt_instance.proofs.instance.are_filled.Given as goal

abbrev pub invariant-lists : goal.invariant-lists
invariant-lists l = Each (λ list. list ≢ []) l.lists ↔ Each (λ list. list ≢ []) l.initial.lists

abbrev pub decreases-lists : goal.decreases-lists
decreases-lists l = length l.lists
