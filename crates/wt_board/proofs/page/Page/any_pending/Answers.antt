use Rattle.std.proofs.Common.{List, ◌-◌, length, take, drop, sym, subst}
use Rattle.wt_constraint.specs.declared.set.AtomSet.{AtomSet}
use Rattle.wt_board.specs.declared.nodes.Node.{Node}
use Rattle.wt_board.specs.Covering.{OpenAmong, NextOpen}
use Rattle.wt_board.specs.Viewing.{lore_with}
use Rattle.wt_board.specs.Keeping.{PageTree, PageFits, lore_of}
use Rattle.wt_board.proofs.Held.{lore_whole, covers_whole, rest_is}
use Rattle.wt_board.proofs.Opening.{next_among}
use Rattle.wt_board.proofs.page.Page.any_pending.Goals as goal

pub returns : goal.returns
returns c =
    let now = c.self.inside in
    let all = c.args.self.now.all in
    let log = c.args.log.now in
    let page : PageTree = record { all = now.all; lore = record { cores = now.cores.items; refused = now.refused.items }; seen = now.seen; nodes = now.nodes.items } in
    let fits : PageFits c.args.self.now.all c.args.pair c.args.log.now page = subst (PageFits c.args.self.now.all c.args.pair c.args.log.now) (sym c.self.view_is) c.requires.fits in
    let P : List AtomSet × List AtomSet × List Node → Type 0 = λ q. OpenAmong (lore_with q.0 q.1 (take (length c.args.log.now - page.seen) (drop page.seen c.args.log.now)) c.args.pair) c.args.out.now c.args.pair q.2 c.open_among.result in
    let moved : P (page.lore.cores, page.lore.refused, page.nodes) = subst P (λ i. (c.deref.ensures.value i, c.deref-2.ensures.value i, c.deref-3.ensures.value i)) c.open_among.ensures in
    let rest : OpenAmong (lore_with page.lore.cores page.lore.refused (drop page.seen c.args.log.now) c.args.pair) c.args.out.now c.args.pair page.nodes c.open_among.result =
    subst (λ es. OpenAmong (lore_with page.lore.cores page.lore.refused es c.args.pair) c.args.out.now c.args.pair page.nodes c.open_among.result) (rest_is c.args.log.now page.seen) moved in
    let told : OpenAmong (lore_of c.args.pair c.args.log.now) c.args.out.now c.args.pair page.nodes c.open_among.result =
    subst (λ k. OpenAmong k c.args.out.now c.args.pair page.nodes c.open_among.result) (lore_whole all c.args.pair log page fits) rest in
    subst (λ a. NextOpen (lore_of c.args.pair c.args.log.now) c.args.out.now c.args.pair a c.open_among.result) fits.atoms
    (next_among (lore_of c.args.pair c.args.log.now) c.args.out.now c.args.pair page.all page.nodes c.open_among.result (covers_whole all c.args.pair log page fits) fits.within told)
