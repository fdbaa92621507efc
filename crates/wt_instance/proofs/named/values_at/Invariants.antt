use Rattle.std.proofs.Common.{◌≡◌, take, map}
use Rattle.wt_instance.specs.Rows.{value_at}
use Rattle.wt_instance.proofs.named.values_at.Given as goal

abbrev pub invariant-loop-number : goal.invariant-loop-number
invariant-loop-number l = l.picked ≡ map (value_at l.row l.leaf) (take l.number-index l.numbers)
