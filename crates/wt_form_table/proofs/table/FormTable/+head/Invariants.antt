use Rattle.std.proofs.Common.{length}
use Rattle.wt_form_table.proofs.table.FormTable.+head.Given as goal

abbrev pub decreases-head : goal.decreases-head
decreases-head l = length l.parts.now
