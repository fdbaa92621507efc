use Rattle.std.proofs.Common.{◌≡◌, ◌≤◌, ◌++◌, ◌-◌, length, drop}
use Rattle.wt_resolve.proofs.lookup.ScopeItem.push_names.Given as goal

abbrev pub invariant-names : goal.invariant-names
invariant-names l = record {
  within : l.i ≤ length l.self.names;
  so_far : l.out.items ++ drop l.i l.self.names ≡ l.fn.out.items ++ l.self.names;
}

abbrev pub decreases-names : goal.decreases-names
decreases-names l = length l.self.names - l.i
