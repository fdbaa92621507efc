use Rattle.std.proofs.Common.{◌≡◌, ◌<◌, ◌≤◌, ℕ, length, cond, nat_eq}
use Rattle.std.specs.Prelude.{slice_index_or}
use Rattle.wt_facts.proofs.sames.merge.Given as goal

-- the first i symbols are relabelled, and the others are as they were
abbrev pub invariant-loop-i : goal.invariant-loop-i
invariant-loop-i l = record {
  length : length l.classes.items ≡ length l.fn.classes.items;
  from : l.from ≡ slice_index_or l.fn.classes.items l.x 0;
  to : l.to ≡ slice_index_or l.fn.classes.items l.y 0;
  done : (j : ℕ) → j < l.i → slice_index_or l.classes.items j 0 ≡ cond (nat_eq (slice_index_or l.fn.classes.items j 0) l.from) l.to (slice_index_or l.fn.classes.items j 0);
  left : (j : ℕ) → l.i ≤ j → slice_index_or l.classes.items j 0 ≡ slice_index_or l.fn.classes.items j 0;
}
