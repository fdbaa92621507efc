use Rattle.std.proofs.Common.{◌≡◌, ◌++◌, map}
use Rattle.wt_form.specs.Parts.{terms_append}
use Rattle.wt_form.specs.Views.{terms_seen}
use Rattle.wt_places.proofs.put.put_before.Given as goal

abbrev pub invariant-loop-head : goal.invariant-loop-head
invariant-loop-head l = map terms_seen l.out.items ≡ map terms_seen l.fn.out.items ++ map (λ us. terms_append us (terms_seen l.rest)) (map terms_seen l.yielded)
