use Rattle.std.proofs.Common.{◌≡◌, ◌≤◌, ◌+◌, ◌-◌, length, filter, drop}
use Rattle.std.specs.Str.{bytes_eq}
use Rattle.wt_resolve.proofs.lookup.count_named.Given as goal

abbrev pub invariant-names : goal.invariant-names
invariant-names l = record {
  within : l.i ≤ length l.item.names;
  few : l.count ≤ l.i;
  so_far : l.count + length (filter (bytes_eq l.name) (drop l.i l.item.names)) ≡ length (filter (bytes_eq l.name) l.item.names);
}

abbrev pub decreases-names : goal.decreases-names
decreases-names l = length l.item.names - l.i
