use Rattle.std.proofs.Common.{List, [], append-nil, subst}
use Rattle.wt_rewrite.specs.declared.runs.Run.{Run}
use Rattle.wt_rewrite.specs.Runs.{AreRuns}
use Rattle.wt_rewrite.proofs.runs.runs_of.Goals as goal

pub returns : goal.returns
returns c = subst (λ (l : List Run). AreRuns c.args.rules.now 0 l) (append-nil c.rules.runs.items) (c.rules.invariant [] c.rules-test.false)
