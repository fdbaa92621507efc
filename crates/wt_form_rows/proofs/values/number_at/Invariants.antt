use Rattle.std.proofs.Common.{◌≡◌, length}
use Rattle.wt_rows.specs.FormRows.{number_at}
use Rattle.wt_form_rows.proofs.values.number_at.Given as goal

abbrev pub invariant-piece : goal.invariant-piece
invariant-piece l = number_at l.piece l.number ≡ number_at l.initial.piece l.number

abbrev pub decreases-piece : goal.decreases-piece
decreases-piece l = length l.piece
