use Rattle.std.proofs.Common.{◌≡◌, ◌++◌, drop}
use Rattle.wt_instance.specs.Rows.{named}
use Rattle.wt_instance.proofs.named.named.Given as goal

abbrev pub invariant-loop-number : goal.invariant-loop-number
invariant-loop-number l = l.cells ++ named l.leaf l.number (drop l.number l.row) ≡ named l.leaf 0 l.row
