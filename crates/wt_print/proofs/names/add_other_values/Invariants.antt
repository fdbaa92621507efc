use Rattle.std.proofs.Common.{◌≡◌, ◌++◌, length}
use Rattle.std.specs.List.{AllByRecursion}
use Rattle.wt_spelling.specs.Numbers.{FitsValue}
use Rattle.wt_spelling.specs.Spelling as spec
use Rattle.wt_print.proofs.names.add_other_values.Given as goal

abbrev pub invariant-values : goal.invariant-values
invariant-values l = record {
  text : l.out.items ++ spec.others_text spec.value_text l.values ≡ l.fn.out.items ++ spec.others_text spec.value_text l.initial.values;
  fits : AllByRecursion FitsValue l.values → AllByRecursion FitsValue l.initial.values;
}

abbrev pub decreases-values : goal.decreases-values
decreases-values l = length l.values
