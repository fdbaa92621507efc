use Rattle.wt_instance.proofs.Columns.{rows_named, all_wide}
use Rattle.wt_instance.proofs.laws.rows_have_columns.Goals as goal

pub returns : goal.returns
returns c p I is s A = rows_named A I (all_wide p I is) s
