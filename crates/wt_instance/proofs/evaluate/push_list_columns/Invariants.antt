use Rattle.std.proofs.Common.{◌≡◌, ◌++◌, map, take}
use Rattle.wt_instance.specs.Rows.{column}
use Rattle.wt_instance.proofs.evaluate.push_list_columns.Given as goal

abbrev pub invariant-loop-number : goal.invariant-loop-number
invariant-loop-number l = l.columns ≡ l.fn.columns ++ map (column l.leaf) (take l.number-index l.numbers)
