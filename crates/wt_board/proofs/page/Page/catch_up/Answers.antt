use Rattle.std.proofs.Common.{refl}
use Rattle.wt_board.specs.Keeping.{PageTree}
use Rattle.wt_board.proofs.Held.{fits_more}
use Rattle.wt_board.proofs.page.Page.catch_up.Goals as goal

pub entries-preserved : goal.entries-preserved
entries-preserved c =
    let now = c.entries.self-inside in
    let page : PageTree = record { all = now.all; lore = record { cores = now.cores.items; refused = now.refused.items }; seen = now.seen; nodes = now.nodes.items } in
    record {
      all = c.entries.invariant.all;
      fits = fits_more c.args.self.now.all c.args.pair c.args.log.now page _ _ c.learn.new.cores.items c.learn.new.refused.items c.entries.invariant.fits c.entries-test.true refl c.in_ok-learn.ensures.cores c.in_ok-learn.ensures.refused;
    }
