use Rattle.std.proofs.Common.{◌<◌, length, sym, subst}
use Rattle.wt_board.specs.Boards.{BoardTree}
use Rattle.wt_board.specs.Lots.{lot_tree}
use Rattle.wt_board.specs.Keeping.{PageFits}
use Rattle.wt_board.proofs.Choosing.{page_fits_own}
use Rattle.wt_board.proofs.board.Board.needed.Goals as goal

pub needed-requires : goal.needed-requires
needed-requires c =
    let P : BoardTree → Type 0 = λ b. c.args.pair < length (lot_tree b.lot).pairs in
    record {
      fits = subst (λ log. PageFits c.index.result.now.all c.args.pair log c.index.result.now) (sym c.deref.ensures.value)
          (page_fits_own (lot_tree c.self.inside.lot) c.self.inside.log.items c.self.inside.pages.items c.args.pair c.index.result.now c.self.invariant.2 (subst P (sym c.self.view_is) c.requires.pair) c.index.ensures);
    }
