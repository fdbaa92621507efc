use Rattle.std.proofs.Common.{◌≡◌, ◌++◌, map}
use Rattle.wt_form.specs.Trees.{distinct_of}
use Rattle.wt_form.specs.Views.{terms_seen, range_seen}
use Rattle.wt_places.proofs.put.put_distinct.Given as goal

abbrev pub invariant-loop-terms : goal.invariant-loop-terms
invariant-loop-terms l = map range_seen l.out.items ≡ map range_seen l.fn.out.items ++ map (distinct_of l.head) (map terms_seen l.yielded)
