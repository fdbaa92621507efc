use Rattle.std.proofs.Common.{length}
use Rattle.wt_form_rows.proofs.values.+push_beside.Given as goal

abbrev pub decreases-push_beside : goal.decreases-push_beside
decreases-push_beside l = length l.numbers.now
