use Rattle.std.proofs.Common.{inr, refl, arith}
use Rattle.std.proofs.lemmas.List.{length-map}
use Rattle.wt_symbol.specs.Sides.{tree_of, pair_of}
use Rattle.wt_pair.proofs.WalkLemmas.{none_stand}
use Rattle.wt_pair.proofs.walk.fill_anchoring.Goals as goal

pub returns : goal.returns
returns c =
    let none = none_stand (tree_of c.args.source.now.side) _ (rw c.in_ok-anchors.ensures at (c.in_ok-has_pairs.ensures c.if-branch.false)) _ in
    record {
      pairs = refl;
      within = omega (arith, length-map c.args.pairs.now pair_of);
      full_or_done = inr none;
    }
