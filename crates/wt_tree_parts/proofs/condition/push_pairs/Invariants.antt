use Rattle.std.proofs.Common.{◌≡◌, ◌++◌, length, map}
use Rattle.wt_ast.specs.Tree.{condition_tree}
use Rattle.wt_blocks.specs.Printed.{pair_trees}
use Rattle.wt_tree_parts.specs.Leaves.{scope_of_leaves}
use Rattle.wt_tree_parts.proofs.condition.push_pairs.Given as goal

abbrev pub invariant-pairs : goal.invariant-pairs
invariant-pairs l =
    map condition_tree l.out.items ++ pair_trees (scope_of_leaves l.lefts.schema.now.tables l.lefts.leaves.now) (scope_of_leaves l.rights.schema.now.tables l.rights.leaves.now) l.a l.b
    ≡ map condition_tree l.fn.out.items ++ pair_trees (scope_of_leaves l.lefts.schema.now.tables l.lefts.leaves.now) (scope_of_leaves l.rights.schema.now.tables l.rights.leaves.now) l.fn.a l.fn.b

abbrev pub decreases-pairs : goal.decreases-pairs
decreases-pairs l = length l.a
