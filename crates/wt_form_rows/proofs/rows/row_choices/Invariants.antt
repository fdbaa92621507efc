use Rattle.std.proofs.Common.{◌≡◌, take, map}
use Rattle.wt_rows.specs.FormRows.{labels}
use Rattle.wt_form_rows.proofs.rows.row_choices.Given as goal

abbrev pub invariant-loop-row : goal.invariant-loop-row
invariant-loop-row l = l.choices ≡ map (labels l.instance l.head) (take l.row-index l.row-items)
