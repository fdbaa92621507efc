use Rattle.std.proofs.Common.{◌≡◌, ◌++◌, take}
use Rattle.wt_form_rows.proofs.values.push_values.Given as goal

abbrev pub invariant-loop-value : goal.invariant-loop-value
invariant-loop-value l = l.row ≡ l.fn.row ++ take l.value-index l.value-items
