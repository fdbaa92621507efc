use Rattle.wt_board.specs.Lots.{lot_tree}
use Rattle.wt_board.proofs.Choosing.{page_fits_own, pending_here}
use Rattle.wt_board.proofs.pages.pending_of.Goals as goal

pub next_pending-requires : goal.next_pending-requires
next_pending-requires c = record { fits = page_fits_own (lot_tree c.args.lot.now) c.args.log.now c.args.pages.now.items c.args.pair c.index_mut.result.now c.requires.keeps c.requires.within c.index_mut.ensures.value }

pub returns-clause-pending : goal.returns-clause-pending
returns-clause-pending c =
    pending_here (lot_tree c.args.lot.now) c.args.log.now c.args.pages.now.items c.args.pair c.index_mut.result.now c.requires.keeps c.requires.within c.index_mut.ensures.value c.args.out.now c.in_ok-found.found c.in_ok-found.ensures.pending
