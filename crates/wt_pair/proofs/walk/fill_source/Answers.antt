use Rattle.std.proofs.Common.{◌≡◌, map, length, inl, inr, arith, refl}
use Rattle.std.proofs.lemmas.List.{length-map}
use Rattle.wt_symbol.specs.Sides.{tree_of, pair_of}
use Rattle.wt_pair.proofs.WalkLemmas.{anchoring_next, anchoring_passed, anchorings_done, must_be_done}
use Rattle.wt_pair.proofs.walk.fill_source.Goals as goal

pub returns-then-len-most : goal.returns-then-len-most
returns-then-len-most c =
    let filled = c.in_ok-dest.ensures in
    record {
      pairs = anchoring_next c.args.bounds.now (tree_of c.args.source.now.side) c.args.source.now.symbols c.anchorings.anchoring c.args.most c.anchorings.dest c.in_ok-dest.dest _ _ _ (omega (arith, c.count_anchorings-count.ensures)) filled c.anchorings.invariant.so_far;
      within = filled.within;
      full_or_done = inl (omega (arith, length-map c.fill_anchoring.new.pairs pair_of));
    }

pub anchorings-preserved : goal.anchorings-preserved
anchorings-preserved c =
    let filled = c.in_ok-dest.ensures in
    let next = anchoring_next c.args.bounds.now (tree_of c.args.source.now.side) c.args.source.now.symbols c.anchorings.anchoring c.args.most c.anchorings.dest c.in_ok-dest.dest _ _ _ (omega (arith, c.count_anchorings-count.ensures)) filled c.anchorings.invariant.so_far in
    let many : length (map pair_of c.fill_anchoring.new.pairs) ≡ c.len.result = omega (arith, length-map c.fill_anchoring.new.pairs pair_of) in
    record {
      room = omega (arith, length-map c.fill_anchoring.new.pairs pair_of, filled.within);
      so_far =
          anchoring_passed c.args.bounds.now (tree_of c.args.source.now.side) c.args.source.now.symbols c.anchorings.anchoring c.in_ok-dest.dest _ _ (omega (arith, c.count_anchorings-count.ensures))
          (must_be_done c.args.most (length (map pair_of c.fill_anchoring.new.pairs)) _ _ refl (λ full. c.if-len-most.false (omega arith)) filled.full_or_done) next;
    }

pub returns : goal.returns
returns c = record {
  pairs = c.anchorings.invariant.so_far;
  within = omega (arith, length-map c.anchorings.pairs pair_of);
  full_or_done = inr (anchorings_done c.args.bounds.now (tree_of c.args.source.now.side) c.args.source.now.symbols c.anchorings.anchoring c.anchorings.dest (omega (arith, c.count_anchorings-count.ensures)));
}
