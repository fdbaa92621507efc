use Rattle.std.proofs.Common.{◌≡◌, take}
use Rattle.wt_instance.specs.Rows.{joined}
use Rattle.wt_instance.proofs.operator.joined.Given as goal

abbrev pub invariant-loop-right : goal.invariant-loop-right
invariant-loop-right l = l.rows ≡ joined l.anchors l.instance l.lists.0 l.lists.1 l.left (take l.right-index l.right-items)
