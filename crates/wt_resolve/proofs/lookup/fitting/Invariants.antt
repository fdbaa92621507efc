use Rattle.std.proofs.Common.{◌≡◌, ◌+◌, ◌-◌, ◌^◌, ◌≤◌, ◌<◌, length, filter, drop}
use Rattle.std.specs.Prelude.{min}
use Rattle.wt_query_rows.specs.Scopes.{fits}
use Rattle.wt_resolve.specs.Scoping.{columns_of}
use Rattle.wt_resolve.proofs.lookup.fitting.Given as goal

abbrev pub invariant-items : goal.invariant-items
invariant-items l = record {
  within : l.i ≤ length l.items;
  small : l.count < 2 ^ 64;
  so_far : min (2 ^ 64 - 1) (l.count + length (filter (fits l.c) (columns_of (drop l.i l.items)))) ≡ min (2 ^ 64 - 1) (length (filter (fits l.c) (columns_of l.items)));
}

abbrev pub decreases-items : goal.decreases-items
decreases-items l = length l.items - l.i
