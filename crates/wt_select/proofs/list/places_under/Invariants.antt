use Rattle.std.proofs.Common.{◌≡◌, ◌+◌, ◌-◌, ◌≤◌, ◌++◌, length, drop, map}
use Rattle.wt_query_rows.specs.Scopes.{is_of}
use Rattle.wt_query_plan.specs.Building as building
use Rattle.wt_resolve.specs.Scoping.{columns_of}
use Rattle.wt_select.proofs.list.places_under.Given as goal

abbrev pub invariant-items : goal.invariant-items
invariant-items l = record {
  within : l.i ≤ length l.items;
  counted : l.first + length (columns_of (drop l.i l.items)) ≡ length (columns_of l.items);
  so_far : l.places.items ++ map (λ k. l.first + k) (building.places_where (is_of l.alias) (columns_of (drop l.i l.items))) ≡ building.places_where (is_of l.alias) (columns_of l.items);
}

abbrev pub decreases-items : goal.decreases-items
decreases-items l = length l.items - l.i
