use Rattle.std.proofs.Common.{◌≡◌, ◌++◌, ◌∷◌, map, take}
use Rattle.wt_congruent.proofs.same.push_first.Given as goal

abbrev pub invariant-loop-tail : goal.invariant-loop-tail
invariant-loop-tail l = l.out.items ≡ l.initial.out.items ++ map (λ ks. l.j ∷ ks) (take l.tail-index l.tails)
