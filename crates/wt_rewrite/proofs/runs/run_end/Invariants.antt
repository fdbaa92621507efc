use Rattle.std.proofs.Common.{◌-◌, length}
use Rattle.wt_rewrite.specs.Runs.{IsRun}
use Rattle.wt_rewrite.proofs.runs.run_end.Given as goal

abbrev pub invariant-rules : goal.invariant-rules
invariant-rules l = IsRun l.rules l.start l.end

abbrev pub decreases-rules : goal.decreases-rules
decreases-rules l = length l.rules - l.end
