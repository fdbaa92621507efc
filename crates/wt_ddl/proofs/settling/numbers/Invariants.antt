use Rattle.std.proofs.Common.{◌≡◌, ◌-◌, ◌≤◌, length, drop, []}
use Rattle.wt_ddl.specs.Settling.{in_turn, list_one}
use Rattle.wt_ddl.proofs.settling.numbers.Given as goal

abbrev pub invariant-names : goal.invariant-names
invariant-names l = record {
  exact : in_turn (list_one l.columns) l.numbers (drop l.i l.names) ≡ in_turn (list_one l.columns) [] l.names;
  within : l.i ≤ length l.names;
}

abbrev pub decreases-names : goal.decreases-names
decreases-names l = length l.names - l.i
