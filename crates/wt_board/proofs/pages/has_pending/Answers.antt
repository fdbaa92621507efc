use Rattle.wt_board.specs.Lots.{lot_tree}
use Rattle.wt_board.specs.Keeping.{at_work}
use Rattle.wt_board.proofs.Choosing.{page_fits_own, pending_here, pending_told}
use Rattle.wt_board.proofs.pages.has_pending.Goals as goal

pub any_pending-requires : goal.any_pending-requires
any_pending-requires c = record { fits = page_fits_own (lot_tree c.args.lot.now) c.args.log.now c.args.pages.now c.args.pair c.index-pages-pair.result c.requires.keeps c.requires.within c.index-pages-pair.is }

pub returns : goal.returns
returns c =
    pending_told (lot_tree c.args.lot.now) (at_work c.args.out.now c.args.log.now) c.args.pair c.any_pending.result c.is_some.result c.is_some.ensures
    (pending_here (lot_tree c.args.lot.now) c.args.log.now c.args.pages.now c.args.pair c.index-pages-pair.result c.requires.keeps c.requires.within c.index-pages-pair.is c.args.out.now c.any_pending.result c.any_pending.ensures)
