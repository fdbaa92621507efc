use Rattle.std.proofs.Common.{◌≡◌, length, get_or, []}
use Rattle.wt_query_rows.specs.Scopes.{in_scope}
use Rattle.wt_tree_parts.specs.Leaves.{scope_of_leaves}
use Rattle.wt_tree_parts.proofs.leaf.column_at.Given as goal

abbrev pub invariant-leaves : goal.invariant-leaves
invariant-leaves l = get_or (scope_of_leaves l.schema.tables l.leaves) l.place (in_scope [] []) ≡ get_or (scope_of_leaves l.fn.sight.schema.now.tables l.fn.sight.leaves.now) l.fn.place (in_scope [] [])

abbrev pub decreases-leaves : goal.decreases-leaves
decreases-leaves l = length l.leaves
