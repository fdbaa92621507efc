use Rattle.std.proofs.Common.{◌≡◌, ◌<◌, ℕ, length}
use Rattle.std.specs.Prelude.{slice_index_or}
use Rattle.wt_facts.proofs.sames.own_classes.Given as goal

abbrev pub invariant-loop-symbol : goal.invariant-loop-symbol
invariant-loop-symbol l = record {
  size : length l.classes.items ≡ l.symbol;
  own : (i : ℕ) → i < l.symbol → slice_index_or l.classes.items i 0 ≡ i;
}
