use Rattle.std.proofs.Common.{◌≡◌, ◌++◌, drop}
use Rattle.wt_rows.specs.FormRows.{numbered}
use Rattle.wt_form_rows.proofs.values.numbered.Given as goal

abbrev pub invariant-loop-number : goal.invariant-loop-number
invariant-loop-number l = l.piece ++ numbered l.number (drop l.number l.row) ≡ numbered 0 l.row
