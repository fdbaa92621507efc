use Rattle.std.proofs.Common.{◌≡◌, ◌++◌, length}
use Rattle.wt_spelling.specs.Spelling as spec
use Rattle.wt_print.proofs.names.add_other_columns.Given as goal

abbrev pub invariant-columns : goal.invariant-columns
invariant-columns l = l.out.items ++ spec.others_text spec.column_text l.columns ≡ l.fn.out.items ++ spec.others_text spec.column_text l.initial.columns

abbrev pub decreases-columns : goal.decreases-columns
decreases-columns l = length l.columns
