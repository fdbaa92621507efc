use Rattle.std.proofs.Common.{◌≡◌, ◌++◌, map}
use Rattle.wt_form.specs.Trees.{range_then}
use Rattle.wt_form.specs.Views.{ranges_seen, range_seen}
use Rattle.wt_places.proofs.put.put_range_first.Given as goal

abbrev pub invariant-loop-tail : goal.invariant-loop-tail
invariant-loop-tail l = map ranges_seen l.out.items ≡ map ranges_seen l.fn.out.items ++ map (range_then (range_seen l.range)) (map ranges_seen l.yielded)
