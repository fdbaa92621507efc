use Rattle.std.proofs.Common.{◌≡◌, ◌++◌, map}
use Rattle.wt_form.specs.Trees.{cond_then}
use Rattle.wt_form.specs.Views.{conds_seen, cond_seen}
use Rattle.wt_places.proofs.put.put_cond.Given as goal

abbrev pub invariant-loop-head : goal.invariant-loop-head
invariant-loop-head l = map conds_seen l.out.items ≡ map conds_seen l.fn.out.items ++ map (λ c. cond_then c (conds_seen l.rest)) (map cond_seen l.yielded)
