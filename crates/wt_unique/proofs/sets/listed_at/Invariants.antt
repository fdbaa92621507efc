use Rattle.std.proofs.Common.{◌≡◌, take, map}
use Rattle.std.specs.Prelude.{slice_index_or}
use Rattle.wt_unique.proofs.sets.listed_at.Given as goal

abbrev pub invariant-loop-column : goal.invariant-loop-column
invariant-loop-column l = l.out ≡ map (λ c. slice_index_or l.list c 0) (take l.column-index l.set)
