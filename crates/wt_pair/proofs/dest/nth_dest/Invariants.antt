use Rattle.std.proofs.Common.{◌≡◌, suc, ◌+◌, ◌-◌, slice_get, vec_len}
use Rattle.std.specs.List.{flat_map}
use Rattle.wt_template.specs.Order.{trees, numbers_from}
use Rattle.wt_pair.specs.Candidates.{makers, destinations_over}
use Rattle.wt_pair.specs.Dests.{CountsDests}
use Rattle.wt_pair.proofs.DestLemmas.{side_leaves}
use Rattle.wt_pair.proofs.dest.nth_dest.Given as goal

abbrev pub invariant-loop-n : goal.invariant-loop-n
invariant-loop-n l = record {
  counted : CountsDests l.ops.0 l.symbols l.counts.items (l.n + 1);
  many : vec_len l.counts ≡ l.n + 1;
  left : slice_get (flat_map (trees (side_leaves l.symbols) (makers l.ops.0 l.symbols.lists l.symbols.preds) (0 + suc l.most)) (numbers_from (1 + l.n) (l.most - l.n))) l.rest
      ≡ slice_get (destinations_over l.ops.0 l.most l.symbols.leaves l.symbols.lists l.symbols.preds) l.k;
}
