use Rattle.std.proofs.Common.{◌≡◌, take}
use Rattle.std.specs.Prelude.{flat_map}
use Rattle.wt_instance.specs.Rows.{joined, or_nulls}
use Rattle.wt_instance.proofs.operator.left_join.Given as goal

abbrev pub invariant-loop-left : goal.invariant-loop-left
invariant-loop-left l = l.rows ≡ flat_map (λ left. or_nulls left l.columns (joined l.anchors l.instance l.lists.0 l.lists.1 left l.rights)) (take l.left-index l.left-items)
