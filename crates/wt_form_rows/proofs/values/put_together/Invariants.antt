use Rattle.std.proofs.Common.{◌≡◌, take}
use Rattle.wt_rows.specs.FormRows.{put_together}
use Rattle.wt_form_rows.proofs.values.put_together.Given as goal

abbrev pub invariant-loop-values : goal.invariant-loop-values
invariant-loop-values l = l.row ≡ put_together (take l.values-index l.values-items)
