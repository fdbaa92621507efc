use Rattle.std.proofs.Common.{◌≡◌, ◌++◌, take}
use Rattle.wt_plan.specs.Regular as regular
use Rattle.wt_select.proofs.list.push_kinds.Given as goal

abbrev pub invariant-loop-place : goal.invariant-loop-place
invariant-loop-place l = l.out.items ≡ l.fn.out.items ++ regular.kinds_at l.kinds (take l.place-index l.places)
