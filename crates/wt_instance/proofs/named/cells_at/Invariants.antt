use Rattle.std.proofs.Common.{◌≡◌, take, map}
use Rattle.wt_instance.specs.Rows.{cell, value_at}
use Rattle.wt_instance.proofs.named.cells_at.Given as goal

abbrev pub invariant-loop-number : goal.invariant-loop-number
invariant-loop-number l = l.picked ≡ map (λ n. cell l.leaf n (value_at l.row l.leaf n)) (take l.number-index l.numbers)
