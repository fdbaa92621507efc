use Rattle.std.proofs.Common.{◌≡◌, ◌<◌, List, true≢false, sym, ◌∙◌, subst, rules}
use Rattle.std.specs.List.{remove}
use Rattle.wt_cores.specs.Cores.{Within}
use Rattle.wt_cores.proofs.Bits.{within_trans}
use Rattle.wt_board.specs.declared.nodes.Node.{Node}
use Rattle.wt_board.specs.Covering.{LiesIn, IsCovered, EachWithin, turns_left, no_node}
use Rattle.wt_board.specs.Viewing.{lore_with}
use Rattle.wt_board.proofs.Covered.{within_at, removed_covers, removed_within, removed_less}
use Rattle.wt_board.proofs.Opening.{read_is, visit_told}
use Rattle.wt_board.proofs.page.look_at.Goals as goal

pub returns-in-Some-clause-told : goal.returns-in-Some-clause-told
returns-in-Some-clause-told c =
    let node = c.index-node.result.now in
    let at : Within node.must node.may × Within node.may c.args.view.now.all =
    subst (λ (x : Node). Within x.must x.may × Within x.may c.args.view.now.all) (read_is c.args.nodes.now.items c.args.k node no_node c.requires.at c.index-node.ensures) (within_at c.args.view.now.all c.args.nodes.now.items c.args.k no_node c.requires.at c.requires.within) in
    visit_told (lore_with c.args.view.now.cores.now c.args.view.now.refused.now c.args.view.now.rest.now c.args.view.now.pair) c.args.view.now.out.now c.args.view.now.pair c.args.view.now.all c.args.nodes.now.items
    c.in-Some.set c.open_below.result c.visit_of.result c.visit_of.ensures c.open_below.ensures
    (within_trans c.in-Some.set node.must c.args.view.now.all c.in-Some.ensures.1 (within_trans node.must node.may c.args.view.now.all at.0 at.1))

pub returns-in-Unknown-clause-told : goal.returns-in-Unknown-clause-told
returns-in-Unknown-clause-told c =
    let node = c.index-node.result.now in
    let at : Within node.must node.may × Within node.may c.args.view.now.all =
    subst (λ (x : Node). Within x.must x.may × Within x.may c.args.view.now.all) (read_is c.args.nodes.now.items c.args.k node no_node c.requires.at c.index-node.ensures) (within_at c.args.view.now.all c.args.nodes.now.items c.args.k no_node c.requires.at c.requires.within) in
    visit_told (lore_with c.args.view.now.cores.now c.args.view.now.refused.now c.args.view.now.rest.now c.args.view.now.pair) c.args.view.now.out.now c.args.view.now.pair c.args.view.now.all c.args.nodes.now.items
    node.must c.open_below-in-Unknown.result c.visit_of-in-Unknown.result c.visit_of-in-Unknown.ensures c.open_below-in-Unknown.ensures (within_trans node.must node.may c.args.view.now.all at.0 at.1)

pub returns-in_err-split-in-Splits-clause-within : goal.returns-in_err-split-in-Splits-clause-within
returns-in_err-split-in-Splits-clause-within c = c.in_err-split-in-Splits.ensures.within c.args.view.now.all c.requires.within

pub returns-in_ok-split-in-Splits-clause-within : goal.returns-in_ok-split-in-Splits-clause-within
returns-in_ok-split-in-Splits-clause-within c = c.in_ok-split-in-Splits.ensures.within c.args.view.now.all c.requires.within

pub returns-in-Known-clause-covers : goal.returns-in-Known-clause-covers
returns-in-Known-clause-covers c s within unknown =
    let new : c.remove.new.self.items ≡ remove c.args.nodes.now.items c.args.k = search rules in
    let read = read_is c.args.nodes.now.items c.args.k c.index-node.result.now no_node c.requires.at c.index-node.ensures in
    subst (λ xs. IsCovered xs s) (sym new)
    (removed_covers c.args.nodes.now.items c.args.k s c.requires.at (λ l. true≢false (sym (c.in-Known.ensures s (subst (λ (x : Node). LiesIn x s) read l)) ∙ unknown)) (c.requires.covers s within unknown))

pub returns-in-Known-clause-within : goal.returns-in-Known-clause-within
returns-in-Known-clause-within c =
    let new : c.remove.new.self.items ≡ remove c.args.nodes.now.items c.args.k = search rules in
    subst (EachWithin c.args.view.now.all) (sym new) (removed_within c.args.view.now.all c.args.nodes.now.items c.args.k c.requires.within)

pub returns-in-Known-clause-told : goal.returns-in-Known-clause-told
returns-in-Known-clause-told c =
    let new : c.remove.new.self.items ≡ remove c.args.nodes.now.items c.args.k = search rules in (
      subst (λ (xs : List Node). turns_left xs < turns_left c.args.nodes.now.items) (sym new) (removed_less c.args.nodes.now.items c.args.k c.requires.at),
      search rules,
    )
