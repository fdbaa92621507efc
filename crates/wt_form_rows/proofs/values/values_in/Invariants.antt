use Rattle.std.proofs.Common.{◌≡◌, take}
use Rattle.wt_rows.specs.FormRows.{values_in}
use Rattle.wt_form_rows.proofs.values.values_in.Given as goal

abbrev pub invariant-loop-entry : goal.invariant-loop-entry
invariant-loop-entry l = l.row ≡ values_in (take l.entry-index l.piece)
