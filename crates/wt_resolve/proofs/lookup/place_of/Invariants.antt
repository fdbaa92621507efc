use Rattle.std.proofs.Common.{◌≡◌, ◌+◌, ◌-◌, ◌≤◌, length, drop}
use Rattle.wt_query_plan.specs.Building as building
use Rattle.wt_resolve.specs.Scoping.{columns_of}
use Rattle.wt_resolve.proofs.lookup.place_of.Given as goal

abbrev pub invariant-items : goal.invariant-items
invariant-items l = record {
  within : l.i ≤ length l.items;
  counted : l.before + length (columns_of (drop l.i l.items)) ≤ length (columns_of l.items);
  so_far : l.before + building.place_of (columns_of (drop l.i l.items)) l.c ≡ building.place_of (columns_of l.items) l.c;
}

abbrev pub decreases-items : goal.decreases-items
decreases-items l = length l.items - l.i
