use Rattle.std.proofs.Common.{◌≡◌, ◌++◌, take, map}
use Rattle.wt_workers.specs.Renumbering.{renumber}
use Rattle.wt_workers.proofs.report.push_entries.Given as goal

abbrev pub invariant-loop-e : goal.invariant-loop-e
invariant-loop-e l = l.log.items ≡ l.fn.log.items ++ map (renumber l.pair) (take l.e-index l.more)
