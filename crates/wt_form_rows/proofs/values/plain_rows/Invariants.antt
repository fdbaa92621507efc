use Rattle.std.proofs.Common.{◌≡◌, take, map}
use Rattle.wt_rows.specs.FormRows.{put_together}
use Rattle.wt_form_rows.proofs.values.plain_rows.Given as goal

abbrev pub invariant-loop-row : goal.invariant-loop-row
invariant-loop-row l = l.plain ≡ map put_together (take l.row-index l.row-items)
