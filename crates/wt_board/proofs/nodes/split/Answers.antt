use Rattle.std.proofs.Common.{◌<◌, sym, subst}
use Rattle.std.specs.Prelude.{slice_set}
use Rattle.wt_board.specs.Covering.{IsCovered, EachWithin, turns_left}
use Rattle.wt_board.proofs.Opening.{AreHalves, split_covered, split_within, split_fewer}
use Rattle.wt_board.proofs.nodes.split.Goals as goal

pub returns-clause-covers : goal.returns-clause-covers
returns-clause-covers c s h =
    let halves : AreHalves c.index-node.result.now c.half_with.result c.half_without.result c.args.i =
    record { with = c.half_with.ensures.must; same = c.half_with.ensures.may; same' = c.half_without.ensures.must; without = c.half_without.ensures.may } in
    subst (λ ys. IsCovered (slice_set ys c.args.k c.half_without.result) s) (sym c.in_ok-insert.ensures.items)
    (split_covered c.args.nodes.now.items c.args.k c.index-node.result.now c.half_with.result c.half_without.result c.args.i c.requires.within c.index-node.ensures halves s h)

pub returns-clause-within : goal.returns-clause-within
returns-clause-within c all h =
    let halves : AreHalves c.index-node.result.now c.half_with.result c.half_without.result c.args.i =
    record { with = c.half_with.ensures.must; same = c.half_with.ensures.may; same' = c.half_without.ensures.must; without = c.half_without.ensures.may } in
    subst (λ ys. EachWithin all (slice_set ys c.args.k c.half_without.result)) (sym c.in_ok-insert.ensures.items)
    (split_within c.args.nodes.now.items c.args.k c.index-node.result.now c.half_with.result c.half_without.result c.args.i c.requires.within c.index-node.ensures halves c.requires.may c.requires.not_must all h)

pub returns-clause-less : goal.returns-clause-less
returns-clause-less c =
    let halves : AreHalves c.index-node.result.now c.half_with.result c.half_without.result c.args.i =
    record { with = c.half_with.ensures.must; same = c.half_with.ensures.may; same' = c.half_without.ensures.must; without = c.half_without.ensures.may } in
    subst (λ ys. turns_left (slice_set ys c.args.k c.half_without.result) < turns_left c.args.nodes.now.items) (sym c.in_ok-insert.ensures.items)
    (split_fewer c.args.nodes.now.items c.args.k c.index-node.result.now c.half_with.result c.half_without.result c.args.i c.requires.within c.index-node.ensures halves c.requires.may c.requires.not_must c.requires.below)
