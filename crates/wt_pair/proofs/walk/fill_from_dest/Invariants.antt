use Rattle.std.proofs.Common.{◌≡◌, ◌-◌, ◌≤◌, ◌++◌, map, length}
use Rattle.wt_symbol.specs.Sides.{tree_of, pair_of}
use Rattle.wt_pair.specs.Candidates.{destinations_over}
use Rattle.wt_pair.specs.Walk.{rest_of_anchoring}
use Rattle.wt_pair.proofs.walk.fill_from_dest.Given as goal

abbrev pub invariant-dests : goal.invariant-dests
invariant-dests l = record {
  room : length l.pairs ≤ l.most;
  so_far : map pair_of l.pairs ++ rest_of_anchoring l.bounds (tree_of l.source.side) l.source.symbols l.k l.anchors
      ≡ map pair_of l.fn.pairs ++ rest_of_anchoring l.bounds (tree_of l.source.side) l.source.symbols l.from l.anchors;
}

abbrev pub decreases-dests : goal.decreases-dests
decreases-dests l = length (destinations_over l.bounds.ops.0 l.bounds.dst l.source.symbols.leaves l.source.symbols.lists l.source.symbols.preds) - l.k
