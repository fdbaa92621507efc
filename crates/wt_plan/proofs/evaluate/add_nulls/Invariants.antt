use Rattle.std.proofs.Common.{◌≡◌, ◌++◌, ◌≤◌, ◌-◌}
use Rattle.wt_plan.specs.Rows.{null_row}
use Rattle.wt_plan.proofs.evaluate.add_nulls.Given as goal

abbrev pub invariant-nulls : goal.invariant-nulls
invariant-nulls l = record {
  so_far : l.row ≡ l.fn.row ++ null_row l.done;
  within : l.done ≤ l.count;
}

abbrev pub decreases-nulls : goal.decreases-nulls
decreases-nulls l = l.count - l.done
