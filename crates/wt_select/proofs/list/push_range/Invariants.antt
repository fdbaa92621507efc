use Rattle.std.proofs.Common.{◌≡◌, ◌+◌, ◌++◌, map}
use Rattle.wt_plan.specs.Regular as regular
use Rattle.wt_select.proofs.list.push_range.Given as goal

abbrev pub invariant-loop-k : goal.invariant-loop-k
invariant-loop-k l = l.out.items ≡ l.fn.out.items ++ map (λ k. l.first + k) (regular.upto l.k)
