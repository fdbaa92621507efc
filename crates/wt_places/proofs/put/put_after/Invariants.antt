use Rattle.std.proofs.Common.{◌≡◌, ◌++◌, map}
use Rattle.wt_form.specs.Trees.{term_then}
use Rattle.wt_form.specs.Views.{terms_seen, ranges_seen, conds_seen}
use Rattle.wt_places.proofs.put.put_after.Given as goal

abbrev pub invariant-loop-tail : goal.invariant-loop-tail
invariant-loop-tail l = map terms_seen l.out.items ≡ map terms_seen l.fn.out.items ++ map (term_then (ranges_seen l.term.ranges) (conds_seen l.term.conds) l.term.pieces) (map terms_seen l.yielded)
