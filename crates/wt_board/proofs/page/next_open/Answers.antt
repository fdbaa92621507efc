use Rattle.std.proofs.Common.{List, subst}
use Rattle.wt_board.specs.declared.nodes.Node.{Node}
use Rattle.wt_board.specs.Covering.{OpenAmong}
use Rattle.wt_board.specs.Viewing.{lore_with}
use Rattle.wt_board.proofs.Opening.{next_among}
use Rattle.wt_board.proofs.page.next_open.Goals as goal

pub returns-clause-open : goal.returns-clause-open
returns-clause-open c =
    next_among (lore_with c.args.view.now.cores.now c.args.view.now.refused.now c.args.view.now.rest.now c.args.view.now.pair) c.args.view.now.out.now c.args.view.now.pair c.args.view.now.all c.nodes.nodes.items c.open_among.result
    c.nodes.invariant.covers c.nodes.invariant.within
    (subst (λ (xs : List Node). OpenAmong (lore_with c.args.view.now.cores.now c.args.view.now.refused.now c.args.view.now.rest.now c.args.view.now.pair) c.args.view.now.out.now c.args.view.now.pair xs c.open_among.result) c.deref.ensures.value c.open_among.ensures)
