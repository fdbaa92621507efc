use Rattle.std.proofs.Common.{◌≡◌, ℕ, ◌⊎◌, true, false, length, slice_index_or}
use Rattle.wt_constraint.specs.Sets.{HasAtom}
use Rattle.wt_constraint.specs.Sameness.{IsLink, AreSame}
use Rattle.wt_constraint.proofs.same.spread.Given as goal

abbrev pub invariant-links : goal.invariant-links
invariant-links l = record {
  room : length l.reached ≡ 256;
  within : (k : ℕ) → HasAtom l.left k → HasAtom l.fn.set k;
  kept : slice_index_or l.reached l.i false ≡ true;
  followed : (k x y : ℕ) → IsLink l.kind l.atoms l.fn.set k x y →
      HasAtom l.left k ⊎ ((slice_index_or l.reached x false ≡ true) × (slice_index_or l.reached y false ≡ true));
  from : (x : ℕ) → slice_index_or l.reached x false ≡ true → AreSame l.kind l.atoms l.fn.set l.i x;
}

abbrev pub decreases-links : goal.decreases-links
decreases-links l = l.left.0
