use Rattle.std.proofs.Common.{◌≡◌, ℕ, ◌<◌, false, slice_index_or}
use Rattle.wt_constraint.specs.Sameness.{IsLink}
use Rattle.wt_constraint.proofs.same.next_link.Given as goal

abbrev pub invariant-loop-k : goal.invariant-loop-k
invariant-loop-k l =
    (k x y : ℕ) → k < l.k → IsLink l.kind l.atoms l.set k x y →
    (slice_index_or l.reached x false ≡ false) × (slice_index_or l.reached y false ≡ false)
