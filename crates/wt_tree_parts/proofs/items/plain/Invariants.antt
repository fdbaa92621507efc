use Rattle.std.proofs.Common.{◌≡◌, take, Some}
use Rattle.wt_blocks.specs.Printed.{items_of}
use Rattle.wt_tree_parts.specs.Leaves.{scope_of_leaves}
use Rattle.wt_tree_parts.proofs.items.plain.Given as goal

abbrev pub invariant-loop-k : goal.invariant-loop-k
invariant-loop-k l = l.list ≡ items_of (Some (take l.k-index l.cols)) (scope_of_leaves l.sight.schema.now.tables l.sight.leaves.now)
