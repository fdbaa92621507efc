use Rattle.std.proofs.Common.{◌≤◌, ◌<◌, ◌-◌}
use Rattle.wt_rewriting.proofs.making.reach.Given as goal

abbrev pub invariant-statements : goal.invariant-statements
invariant-statements l = record {
  behind : l.from < l.n;
  within : l.n ≤ l.to;
}

abbrev pub decreases-statements : goal.decreases-statements
decreases-statements l = l.to - l.n
