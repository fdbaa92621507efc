use Rattle.std.proofs.Common.{◌≡◌, ◌+◌, ◌++◌, take, map}
use Rattle.wt_joins.proofs.part.push_moved.Given as goal

abbrev pub invariant-loop-place : goal.invariant-loop-place
invariant-loop-place l = l.out.items ≡ l.fn.out.items ++ map (λ k. l.n + k) (take l.place-index l.places)
