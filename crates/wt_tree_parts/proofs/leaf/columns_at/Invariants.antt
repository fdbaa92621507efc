use Rattle.std.proofs.Common.{◌≡◌, take}
use Rattle.wt_blocks.specs.Printed.{columns_at}
use Rattle.wt_tree_parts.specs.Leaves.{scope_of_leaves}
use Rattle.wt_tree_parts.proofs.leaf.columns_at.Given as goal

abbrev pub invariant-loop-k : goal.invariant-loop-k
invariant-loop-k l = l.columns ≡ columns_at (scope_of_leaves l.sight.schema.now.tables l.sight.leaves.now) (take l.k-index l.cols)
