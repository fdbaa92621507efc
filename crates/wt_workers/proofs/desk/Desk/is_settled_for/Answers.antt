use Rattle.std.proofs.Common.{◌≡◌, true, rules, subst}
use Rattle.std.specs.Prelude.{Some, slice_get}
use Rattle.wt_pair.specs.declared.lot.Lot.{Lot}
use Rattle.wt_symbol.specs.Sides.{pair_of}
use Rattle.wt_board.specs.Lots.{lot_tree}
use Rattle.wt_workers.specs.Desks.{DeskTree}
use Rattle.wt_workers.specs.Reports.{IsSettledOf}
use Rattle.wt_workers.proofs.Tasks.{one_is}
use Rattle.wt_workers.proofs.desk.Desk.is_settled_for.Goals as goal

pub returns : goal.returns
returns g c told =
    let of_it : c.is_of.result ≡ true = search rules in
    let L : Lot → Type 0 = λ l. (slice_get (lot_tree l).pairs 0 ≡ Some (pair_of c.args.pair.now)) × (l.bounds.steps ≡ c.args.bounds.now.steps) × (l.bounds.depth ≡ c.args.bounds.now.depth) in
    let same : c.lot-lot.result.now.bounds.depth ≡ c.args.bounds.now.depth = search rules in
    let at : L c.self.inside.board.lot = subst L c.lot-lot.ensures ((c.is_of.ensures.0 of_it).0, (c.is_of.ensures.0 of_it).1, same) in
    let P : DeskTree → Type 0 = λ d. IsSettledOf (pair_of c.args.pair.now) c.args.bounds.now.steps c.args.bounds.now.depth d.board in
    subst P c.self.view_is (record {
      pairs = one_is (lot_tree c.self.inside.board.lot).pairs (pair_of c.args.pair.now) c.self.invariant.0.one at.0;
      steps = at.1;
      depth = at.2;
      settled = c.is_settled.ensures.0 told;
    })
