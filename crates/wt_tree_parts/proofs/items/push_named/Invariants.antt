use Rattle.std.proofs.Common.{◌≡◌, ◌++◌, length}
use Rattle.wt_blocks.specs.Printed.{named_items}
use Rattle.wt_tree_parts.specs.Leaves.{scope_of_leaves}
use Rattle.wt_tree_parts.proofs.items.push_named.Given as goal

abbrev pub invariant-items : goal.invariant-items
invariant-items l =
    l.out.items ++ named_items (scope_of_leaves l.sight.schema.now.tables l.sight.leaves.now) l.cols l.names
    ≡ l.fn.out.items ++ named_items (scope_of_leaves l.sight.schema.now.tables l.sight.leaves.now) l.fn.cols l.fn.names

abbrev pub decreases-items : goal.decreases-items
decreases-items l = length l.cols
