use Rattle.std.proofs.Common.{length}
use Rattle.wt_form_table.proofs.table.FormTable.+pieces.Given as goal

abbrev pub decreases-pieces : goal.decreases-pieces
decreases-pieces l = length l.pieces.now
