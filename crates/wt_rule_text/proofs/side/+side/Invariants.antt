use Rattle.std.proofs.Common.{◌+◌, ◌*◌}
use Rattle.wt_rule_text.proofs.side.+side.Given as goal

abbrev pub decreases-operands : goal.decreases-operands
decreases-operands l = 2 * l.depth + 1

abbrev pub decreases-side : goal.decreases-side
decreases-side l = 2 * l.depth

abbrev pub decreases-with_one : goal.decreases-with_one
decreases-with_one l = 2 * l.depth + 1
