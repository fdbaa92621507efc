use Rattle.std.proofs.Common.{◌≡◌, ◌++◌, length}
use Rattle.wt_spelling.specs.Spelling as spec
use Rattle.wt_print.proofs.names.add_other_names.Given as goal

abbrev pub invariant-names : goal.invariant-names
invariant-names l = l.out.items ++ spec.others_text spec.name_text l.names ≡ l.fn.out.items ++ spec.others_text spec.name_text l.initial.names

abbrev pub decreases-names : goal.decreases-names
decreases-names l = length l.names
