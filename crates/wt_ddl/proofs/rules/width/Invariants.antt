use Rattle.std.proofs.Common.{◌≡◌, ◌-◌, ◌+◌, ◌≤◌, length, drop}
use Rattle.wt_ddl.specs.Settling.{columns_of}
use Rattle.wt_ddl.proofs.rules.width.Given as goal

abbrev pub invariant-elements : goal.invariant-elements
invariant-elements l = record {
  exact : l.count + length (columns_of (drop l.i l.elements)) ≡ length (columns_of l.elements);
  few : l.count ≤ l.i;
  within : l.i ≤ length l.elements;
}

abbrev pub decreases-elements : goal.decreases-elements
decreases-elements l = length l.elements - l.i
