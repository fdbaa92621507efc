use Rattle.std.proofs.Common.{◌-◌, ◌++◌, length, take, drop, sym, ap, subst}
use Rattle.wt_board.specs.Knowledge.{refused_of}
use Rattle.wt_board.specs.Covering.{Lore}
use Rattle.wt_board.specs.Viewing.{AreRefusedWithout}
use Rattle.wt_board.specs.Keeping.{PageTree, PageFits}
use Rattle.wt_board.proofs.Held.{lore_whole, rest_is}
use Rattle.wt_board.proofs.page.Page.needed.Goals as goal

pub returns : goal.returns
returns c =
    let now = c.self.inside in
    let page : PageTree = record { all = now.all; lore = record { cores = now.cores.items; refused = now.refused.items }; seen = now.seen; nodes = now.nodes.items } in
    let fits : PageFits c.args.self.now.all c.args.pair c.args.log.now page = subst (PageFits c.args.self.now.all c.args.pair c.args.log.now) (sym c.self.view_is) c.requires.fits in
    let moved : AreRefusedWithout (page.lore.refused ++ refused_of c.args.pair (drop page.seen c.args.log.now)) c.args.set c.needed.result =
    subst (λ es. AreRefusedWithout (page.lore.refused ++ refused_of c.args.pair es) c.args.set c.needed.result) (rest_is c.args.log.now page.seen)
    (subst (λ rs. AreRefusedWithout (rs ++ refused_of c.args.pair (take (length c.args.log.now - page.seen) (drop page.seen c.args.log.now))) c.args.set c.needed.result) c.deref-2.ensures.value c.needed.ensures) in
    subst (λ rs. AreRefusedWithout rs c.args.set c.needed.result) (ap (λ (k : Lore). k.refused) (lore_whole c.args.self.now.all c.args.pair c.args.log.now page fits)) moved
