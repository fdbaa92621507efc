use Rattle.std.proofs.Common.{◌-◌, ◌≡◌, ◌≤◌}
use Rattle.wt_blocks.specs.Printed.{place_names}
use Rattle.wt_tree_parts.proofs.name.place_names.Given as goal

abbrev pub invariant-places : goal.invariant-places
invariant-places l = record {
  so_far : l.names ≡ place_names l.place;
  within : l.place ≤ l.width;
}

abbrev pub decreases-places : goal.decreases-places
decreases-places l = l.width - l.place
