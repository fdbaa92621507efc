use Rattle.std.proofs.Common.{◌≡◌, take}
use Rattle.wt_plan.specs.Rows.{joined}
use Rattle.wt_plan.proofs.operator.joined.Given as goal

abbrev pub invariant-loop-right : goal.invariant-loop-right
invariant-loop-right l = l.rows ≡ joined l.a l.b l.left (take l.right-index l.right-items)
