use Rattle.std.proofs.Common.{◌+◌, ◌*◌}
use Rattle.wt_symbol.specs.Sides.{tree_of, size_of}
use Rattle.wt_fill.proofs.filling.+fill.Given as goal

abbrev pub decreases-fill : goal.decreases-fill
decreases-fill l = 2 * size_of (tree_of l.side.now)

abbrev pub decreases-fill_both : goal.decreases-fill_both
decreases-fill_both l = 1 + 2 * (size_of (tree_of l.left.now) + size_of (tree_of l.right.now))
