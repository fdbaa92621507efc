use Rattle.std.proofs.Common.{◌≡◌, ◌∙◌, rules}
use Rattle.std.specs.Prelude.{count_by}
use Rattle.wt_bag.proofs.Counting.{count_by-total}
use Rattle.wt_rows.specs.FormRows.{form_row_same}
use Rattle.wt_form_rows.proofs.distinct.occurrences.Goals as goal

pub returns : goal.returns
returns c =
    let counted : c.count.result ≡ count_by (form_row_same c.args.row.now) c.args.rows.now = search rules in
    counted ∙ count_by-total (form_row_same c.args.row.now) c.args.rows.now
