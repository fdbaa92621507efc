use Rattle.std.proofs.Common.{◌≡◌, length}
use Rattle.wt_instance.specs.Rows.{value_at}
use Rattle.wt_instance.proofs.named.value_at.Given as goal

abbrev pub invariant-row : goal.invariant-row
invariant-row l = value_at l.row l.leaf l.number ≡ value_at l.initial.row l.leaf l.number

abbrev pub decreases-row : goal.decreases-row
decreases-row l = length l.row
