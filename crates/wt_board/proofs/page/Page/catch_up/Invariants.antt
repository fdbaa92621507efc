use Rattle.std.proofs.Common.{◌≡◌, ◌-◌, length}
use Rattle.wt_board.specs.Keeping.{PageFits}
use Rattle.wt_board.proofs.page.Page.catch_up.Given as goal

abbrev pub invariant-entries : goal.invariant-entries
invariant-entries l = record {
  all : l.self-inside.all ≡ l.fn.self.all;
  fits : PageFits l.fn.self.all l.pair l.log (record { all = l.self-inside.all; lore = record { cores = l.self-inside.cores.items; refused = l.self-inside.refused.items }; seen = l.self-inside.seen; nodes = l.self-inside.nodes.items });
}

abbrev pub decreases-entries : goal.decreases-entries
decreases-entries l = length l.log - l.self-inside.seen
