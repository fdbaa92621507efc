use Rattle.std.proofs.Common.{◌≡◌, ◌++◌, map}
use Rattle.wt_form.specs.Trees.{range_then}
use Rattle.wt_form.specs.Views.{ranges_seen, range_seen}
use Rattle.wt_places.proofs.put.put_range.Given as goal

abbrev pub invariant-loop-head : goal.invariant-loop-head
invariant-loop-head l = map ranges_seen l.out.items ≡ map ranges_seen l.fn.out.items ++ map (λ r. range_then r (ranges_seen l.rest)) (map range_seen l.yielded)
