use Rattle.std.proofs.Common.{◌+◌, ◌≤◌, arith, length}
use Rattle.wt_parse.proofs.Pieces.{turn, cut_ends, holds_more}
use Rattle.wt_parse.proofs.statements.cut.Goals as goal

pub tokens-preserved : goal.tokens-preserved
tokens-preserved c =
    let within : c.tokens.i + 1 ≤ length c.args.tokens.now = omega arith in
    let (order, cut, holds) = turn c.args.size c.args.tokens.now c.tokens.pieces.items c.step.new.pieces.items c.tokens.from c.in_ok-from.from c.tokens.i c.get.result
    c.tokens.invariant.order (omega arith) c.get.ensures c.in_ok-from.ensures.mark c.in_ok-from.ensures.other c.tokens.invariant.cut c.tokens.invariant.holds in
    record { order = order; within = within; cut = cut; few = omega (arith, c.in_ok-from.ensures.few c.tokens.invariant.order, c.tokens.invariant.few); holds = holds }

pub returns-clause-shown : goal.returns-clause-shown
returns-clause-shown c =
    cut_ends c.args.size c.args.tokens.now c.tokens.pieces.items c.add.new.pieces.items c.tokens.from c.tokens.i c.tokens.invariant.within (omega arith)
    c.in_ok-add.ensures.adds c.tokens.invariant.cut

pub returns-clause-holds : goal.returns-clause-holds
returns-clause-holds c =
    holds_more c.args.tokens.now c.tokens.pieces.items c.add.new.pieces.items c.tokens.from c.tokens.i c.args.size c.tokens.invariant.within
    c.in_ok-add.ensures.adds c.tokens.invariant.holds
