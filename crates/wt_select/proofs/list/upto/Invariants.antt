use Rattle.std.proofs.Common.{◌≡◌}
use Rattle.wt_plan.specs.Regular as regular
use Rattle.wt_select.proofs.list.upto.Given as goal

abbrev pub invariant-loop-k : goal.invariant-loop-k
invariant-loop-k l = l.numbers.items ≡ regular.upto l.k
