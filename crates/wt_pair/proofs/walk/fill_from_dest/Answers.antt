use Rattle.std.proofs.Common.{inr, arith}
use Rattle.std.proofs.lemmas.List.{length-map}
use Rattle.wt_symbol.specs.Sides.{tree_of, pair_of}
use Rattle.wt_pair.proofs.WalkLemmas.{dest_within, dest_next, dests_done}
use Rattle.wt_pair.proofs.walk.fill_from_dest.Goals as goal

pub returns-in-None : goal.returns-in-None
returns-in-None c = record {
  pairs = c.dests.invariant.so_far;
  within = omega (arith, length-map c.dests.pairs pair_of);
  full_or_done =
      inr (dests_done c.args.bounds.now (tree_of c.args.source.now.side) c.args.source.now.symbols c.args.anchors.now c.dests.k
      (rw c.in-None.is at c.in_ok-dest.ensures));
}

pub overflow_add-k : goal.overflow_add-k
overflow_add-k c =
    let sum = (dest_within c.args.bounds.now (tree_of c.args.source.now.side) c.args.source.now.symbols c.args.anchors.now c.dests.k c.requires.small c.requires.dst
    (tree_of c.in-Some.dest) (rw c.in-Some.is at c.in_ok-dest.ensures)).1 in
    omega (arith, sum)

pub dests-smaller : goal.dests-smaller
dests-smaller c =
    let within = (dest_within c.args.bounds.now (tree_of c.args.source.now.side) c.args.source.now.symbols c.args.anchors.now c.dests.k c.requires.small c.requires.dst
    (tree_of c.in-Some.dest) (rw c.in-Some.is at c.in_ok-dest.ensures)).0 in
    omega (arith, within)

pub dests-preserved : goal.dests-preserved
dests-preserved c = record {
  room = omega (arith, c.in_ok-push_lawful-in-Some.ensures.one);
  so_far =
      dest_next c.args.bounds.now (tree_of c.args.source.now.side) c.args.source.now.symbols c.args.anchors.now c.dests.k (tree_of c.in-Some.dest) _ _ _
      (rw c.in-Some.is at c.in_ok-dest.ensures) c.in_ok-push_lawful-in-Some.ensures.pairs c.dests.invariant.so_far;
}
