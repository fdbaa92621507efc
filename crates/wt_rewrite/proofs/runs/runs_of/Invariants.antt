use Rattle.std.proofs.Common.{◌-◌, ◌++◌, List, length}
use Rattle.wt_rewrite.specs.declared.runs.Run.{Run}
use Rattle.wt_rewrite.specs.Runs.{AreRuns}
use Rattle.wt_rewrite.proofs.runs.runs_of.Given as goal

abbrev pub invariant-rules : goal.invariant-rules
invariant-rules l = (rest : List Run) → AreRuns l.rules l.start rest → AreRuns l.rules 0 (l.runs.items ++ rest)

abbrev pub decreases-rules : goal.decreases-rules
decreases-rules l = length l.rules - l.start
