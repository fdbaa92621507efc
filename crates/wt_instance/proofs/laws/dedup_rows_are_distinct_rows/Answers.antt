use Rattle.wt_instance.proofs.Columns.{distinct_values, all_wide}
use Rattle.wt_instance.proofs.laws.dedup_rows_are_distinct_rows.Goals as goal

pub returns : goal.returns
returns c p I is s A = distinct_values A I (all_wide p I is) s
