use Rattle.std.proofs.Common.{◌≡◌, ◌≤◌, ◌-◌, length, drop}
use Rattle.wt_blocks.specs.Printed.{have_names}
use Rattle.wt_tree_parts.specs.Leaves.{scope_of_leaves}
use Rattle.wt_tree_parts.proofs.items.have_names.Given as goal

abbrev pub invariant-names : goal.invariant-names
invariant-names l = record {
  so_far : have_names (drop l.place (scope_of_leaves l.sight.schema.now.tables l.sight.leaves.now)) (drop l.place l.names) ≡ have_names (scope_of_leaves l.sight.schema.now.tables l.sight.leaves.now) l.names;
  within : l.place ≤ length l.names;
}

abbrev pub decreases-names : goal.decreases-names
decreases-names l = length l.names - l.place
