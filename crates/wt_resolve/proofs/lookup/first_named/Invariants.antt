use Rattle.std.proofs.Common.{length, drop, ◌-◌, ◌≡◌, ◌≤◌, ◌+◌}
use Rattle.wt_resolve.specs.Scoping.{named_at}
use Rattle.wt_resolve.proofs.lookup.first_named.Given as goal

abbrev pub invariant-names : goal.invariant-names
invariant-names l = record {
  within : l.i ≤ length l.item.names;
  so_far : named_at l.item.names l.name ≡ l.i + named_at (drop l.i l.item.names) l.name;
}

abbrev pub decreases-names : goal.decreases-names
decreases-names l = length l.item.names - l.i
