use Rattle.std.proofs.Common.{◌≡◌, take, map}
use Rattle.wt_rows.specs.FormRows.{number_at}
use Rattle.wt_form_rows.proofs.values.values_at.Given as goal

abbrev pub invariant-loop-number : goal.invariant-loop-number
invariant-loop-number l = l.row ≡ map (number_at l.piece) (take l.number-index l.numbers)
