use Rattle.std.proofs.Common.{sym, ◌∙◌}
use Rattle.wt_board.specs.Viewing.{lore_with}
use Rattle.wt_board.proofs.Sets.{lies_within}
use Rattle.wt_board.proofs.Knowing.{core_sees, refusal_sees}
use Rattle.wt_board.proofs.nodes.look.Goals as goal

pub returns-then-has_core : goal.returns-then-has_core
returns-then-has_core c s l = core_sees (lore_with c.args.view.now.cores.now c.args.view.now.refused.now c.args.view.now.rest.now c.args.view.now.pair) c.args.node s (sym c.has_core.ensures ∙ c.if-has_core.true) l

pub returns-in-Some-first_outside : goal.returns-in-Some-first_outside
returns-in-Some-first_outside c =
    let out = c.in-Some-first_outside.ensures in
    (out.0, out.1, λ m. out.2 (lies_within c.args.node.must c.in-Some.refused c.in-Some.ensures.0 c.in-Some-first_outside.i m))

pub returns-in-None : goal.returns-in-None
returns-in-None c s l = refusal_sees (lore_with c.args.view.now.cores.now c.args.view.now.refused.now c.args.view.now.rest.now c.args.view.now.pair) c.args.node c.in-Some.refused s c.in-Some.ensures.1 c.in-None.ensures l
