use Rattle.std.proofs.Common.{◌≡◌, ◌≤◌, length, map, true≢false, refl, sym, ◌∙◌, arith}
use Rattle.std.proofs.lemmas.List.{length-map}
use Rattle.wt_symbol.specs.Sides.{pair_of}
use Rattle.wt_board.specs.Lots.{lot_tree}
use Rattle.wt_board.specs.Keeping.{at_work}
use Rattle.wt_board.proofs.Choosing.{none_more, none_at_all}
use Rattle.wt_board.proofs.pages.are_calm.Goals as goal

pub loop-p-preserved : goal.loop-p-preserved
loop-p-preserved c = none_more (lot_tree c.args.lot.now) (at_work c.args.out.now c.args.log.now) c.loop-p.p c.loop-p.invariant (λ s w. true≢false (sym (c.has_pending.ensures.1 (s, w)) ∙ c.if-has_pending.false))

pub returns : goal.returns
returns c =
    let few = c.requires.lot.few in
    let many : length (map pair_of c.args.lot.now.pairs) ≡ length c.args.lot.now.pairs = length-map c.args.lot.now.pairs pair_of in
    let all : length (map pair_of c.args.lot.now.pairs) ≤ c.loop-p.p = omega (arith, few, many, c.loop-p-test.false, c.len-p-end.ensures) in
    (λ yes. none_at_all (lot_tree c.args.lot.now) (at_work c.args.out.now c.args.log.now) c.loop-p.p all c.loop-p.invariant, λ h. refl)
