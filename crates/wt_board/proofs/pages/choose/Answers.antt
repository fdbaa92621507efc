use Rattle.std.proofs.Common.{◌≡◌, ◌≤◌, length, map, subst, arith}
use Rattle.std.proofs.lemmas.List.{length-map}
use Rattle.wt_symbol.specs.Sides.{pair_of}
use Rattle.wt_board.specs.Lots.{lot_tree}
use Rattle.wt_board.specs.Keeping.{PendingOf, at_work}
use Rattle.wt_board.proofs.Choosing.{none_at_all, none_found, none_more}
use Rattle.wt_board.proofs.pages.choose.Goals as goal

pub pending_of-requires-clause-within : goal.pending_of-requires-clause-within
pending_of-requires-clause-within c =
    let many : length (map pair_of c.args.lot.now.pairs) ≡ length c.args.lot.now.pairs = length-map c.args.lot.now.pairs pair_of in
    omega (arith, many, c.loop-p-test.true, c.len-p-end.ensures)

pub returns-in-Some-clause-chosen : goal.returns-in-Some-clause-chosen
returns-in-Some-clause-chosen c = subst (PendingOf (lot_tree c.args.lot.now) (at_work c.args.out.now c.args.log.now) c.loop-p.p) c.in-Some.is c.in_ok-found.ensures.pending

pub loop-p-preserved : goal.loop-p-preserved
loop-p-preserved c =
    let st = at_work c.args.out.now c.args.log.now in
    let here = none_found (lot_tree c.args.lot.now) st c.loop-p.p c.in_ok-found.found c.in_default.not-Some c.in_ok-found.ensures.pending in
    record { keeps = c.pending_of.ensures.keeps; none = none_more (lot_tree c.args.lot.now) st c.loop-p.p c.loop-p.invariant.none here }

pub returns-clause-chosen : goal.returns-clause-chosen
returns-clause-chosen c =
    let few = c.requires.lot.few in
    let many : length (map pair_of c.args.lot.now.pairs) ≡ length c.args.lot.now.pairs = length-map c.args.lot.now.pairs pair_of in
    let all : length (map pair_of c.args.lot.now.pairs) ≤ c.loop-p.p = omega (arith, few, many, c.loop-p-test.false, c.len-p-end.ensures) in
    none_at_all (lot_tree c.args.lot.now) (at_work c.args.out.now c.args.log.now) c.loop-p.p all c.loop-p.invariant.none
