use Rattle.std.proofs.Common.{ℕ, drop}
use Rattle.wt_plan.specs.Tree.{plan_tree}
use Rattle.wt_rewrite.specs.Runs.{AreRuns}
use Rattle.wt_rewrite.specs.Search.{HasNoneFrom}
use Rattle.wt_rewrite.proofs.first.at_node.Given as goal

abbrev pub invariant-loop-run : goal.invariant-loop-run
invariant-loop-run g l =
    (reached : ℕ) × AreRuns l.book.rules reached (drop l.run-index l.book.runs.items) × HasNoneFrom (g.F.Facts.tables l.facts) l.book.rules (plan_tree l.plan) l.node 0 reached
