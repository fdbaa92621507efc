use Rattle.std.proofs.Common.{arith}
use Rattle.wt_pair.proofs.AnchorLemmas.{digit_of, nth_anchoring-step}
use Rattle.wt_pair.proofs.anchoring.+push_anchoring.Goals as goal

pub nonzero_div-k : goal.nonzero_div-k
nonzero_div-k t c =
    (digit_of c.args.leaves c.args.lists c.count_anchorings-block.result c.args.k c.if-lists-eq0.false c.count_anchorings-block.ensures c.requires.exists).0

pub overflow_cast-k : goal.overflow_cast-k
overflow_cast-k t c =
    let parts = digit_of c.args.leaves c.args.lists c.count_anchorings-block.result c.args.k c.if-lists-eq0.false c.count_anchorings-block.ensures c.requires.exists in
    omega (arith, parts.1)

pub nonzero_rem-k : goal.nonzero_rem-k
nonzero_rem-k t c =
    (digit_of c.args.leaves c.args.lists c.count_anchorings-block.result c.args.k c.if-lists-eq0.false c.count_anchorings-block.ensures c.requires.exists).0

pub push_anchoring-requires : goal.push_anchoring-requires
push_anchoring-requires t c =
    let parts = digit_of c.args.leaves c.args.lists c.count_anchorings-block.result c.args.k c.if-lists-eq0.false c.count_anchorings-block.ensures c.requires.exists in
    (omega arith, (c.requires.leaves, (omega arith, omega (arith, parts.2, c.count_anchorings-block.ensures))))

pub returns : goal.returns
returns t c =
    nth_anchoring-step c.args.leaves c.args.lists c.count_anchorings-block.result c.args.k c.args.anchors.now.items _ _ c.if-lists-eq0.false
    c.count_anchorings-block.ensures c.in_ok-push.ensures.items c.in_ok-push_anchoring.ensures
