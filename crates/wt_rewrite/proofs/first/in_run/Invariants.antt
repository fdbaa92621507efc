use Rattle.std.proofs.Common.{◌≤◌}
use Rattle.wt_plan.specs.Tree.{plan_tree}
use Rattle.wt_rewrite.specs.Search.{HasNoneFrom}
use Rattle.wt_rewrite.proofs.first.in_run.Given as goal

abbrev pub invariant-loop-number : goal.invariant-loop-number
invariant-loop-number g l = (l.fn.run.start ≤ l.number) × HasNoneFrom (g.F.Facts.tables l.facts) l.book.rules (plan_tree l.plan) l.node l.fn.run.start l.number
