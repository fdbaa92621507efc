use Rattle.std.proofs.Common.{◌≡◌, ◌++◌, map}
use Rattle.wt_form.specs.Trees.{term_then}
use Rattle.wt_form.specs.Views.{terms_seen, ranges_seen, conds_seen}
use Rattle.wt_places.proofs.put.put_conds.Given as goal

abbrev pub invariant-loop-conds : goal.invariant-loop-conds
invariant-loop-conds l = map terms_seen l.out.items ≡ map terms_seen l.fn.out.items ++ map (λ cs. term_then (ranges_seen l.term.ranges) cs l.term.pieces (terms_seen l.rest)) (map conds_seen l.yielded)
