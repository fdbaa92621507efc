use Rattle.std.proofs.Common.{◌≡◌, ◌++◌, map}
use Rattle.wt_form.specs.Trees.{not_in}
use Rattle.wt_form.specs.Views.{terms_seen, cond_seen}
use Rattle.wt_places.proofs.put.put_not_in.Given as goal

abbrev pub invariant-loop-terms : goal.invariant-loop-terms
invariant-loop-terms l = map cond_seen l.out.items ≡ map cond_seen l.fn.out.items ++ map (not_in l.x l.head) (map terms_seen l.yielded)
