use Rattle.std.proofs.Common.{◌≡◌, ◌++◌, map}
use Rattle.wt_form.specs.Trees.{term_then}
use Rattle.wt_form.specs.Views.{terms_seen, ranges_seen, conds_seen}
use Rattle.wt_places.proofs.put.put_ranges.Given as goal

abbrev pub invariant-loop-ranges : goal.invariant-loop-ranges
invariant-loop-ranges l = map terms_seen l.out.items ≡ map terms_seen l.fn.out.items ++ map (λ rs. term_then rs (conds_seen l.term.conds) l.term.pieces (terms_seen l.rest)) (map ranges_seen l.yielded)
