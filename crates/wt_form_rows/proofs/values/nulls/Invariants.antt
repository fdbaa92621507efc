use Rattle.std.proofs.Common.{◌≡◌, ◌++◌, ◌-◌}
use Rattle.wt_rows.specs.FormRows.{nulls}
use Rattle.wt_form_rows.proofs.values.nulls.Given as goal

abbrev pub invariant-loop-number : goal.invariant-loop-number
invariant-loop-number l = l.row ++ nulls (l.width - l._number) ≡ nulls l.width
