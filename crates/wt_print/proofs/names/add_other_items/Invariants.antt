use Rattle.std.proofs.Common.{◌≡◌, ◌++◌, length}
use Rattle.wt_spelling.specs.Spelling as spec
use Rattle.wt_print.proofs.names.add_other_items.Given as goal

abbrev pub invariant-items : goal.invariant-items
invariant-items l = l.out.items ++ spec.others_text spec.item_text l.items ≡ l.fn.out.items ++ spec.others_text spec.item_text l.initial.items

abbrev pub decreases-items : goal.decreases-items
decreases-items l = length l.items
