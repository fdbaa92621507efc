use Rattle.std.proofs.Common.{◌≡◌, ◌++◌, map}
use Rattle.wt_form.specs.Trees.{cond_then}
use Rattle.wt_form.specs.Views.{conds_seen, cond_seen}
use Rattle.wt_places.proofs.put.put_cond_first.Given as goal

abbrev pub invariant-loop-tail : goal.invariant-loop-tail
invariant-loop-tail l = map conds_seen l.out.items ≡ map conds_seen l.fn.out.items ++ map (cond_then (cond_seen l.cond)) (map conds_seen l.yielded)
