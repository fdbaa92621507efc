use Rattle.std.proofs.Common.{◌≡◌, take}
use Rattle.wt_found.specs.Seen.{named, listed}
use Rattle.wt_found.proofs.columns.list_columns.Given as goal

abbrev pub invariant-loop-number : goal.invariant-loop-number
invariant-loop-number l = named l.columns.items ≡ listed l.leaf (take l.number-index l.number-items)
