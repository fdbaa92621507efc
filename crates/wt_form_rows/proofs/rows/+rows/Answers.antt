use Rattle.std.proofs.Common.{rules, ◌≡◌}
use Rattle.wt_form.specs.Views.{ranges_seen, conds_seen}
use Rattle.wt_rows.specs.FormRows.{ranges_rows}
use Rattle.wt_form_rows.specs.Tests.{tests_of}
use Rattle.wt_form_rows.proofs.ChoiceRows.{term_added}
use Rattle.wt_form_rows.proofs.rows.+rows.Goals as goal

pub push_term-returns : goal.push_term-returns
push_term-returns t c =
    let tests : c.as_slice.result.now ≡ tests_of c.args.instance.now (conds_seen c.args.term.now.conds) = search rules in
    let exprs : c.as_slice-2.result.now ≡ c.args.term.now.pieces = search rules in
    let ranges : c.as_slice-3.result.now ≡ ranges_rows (ranges_seen c.args.term.now.ranges) c.args.instance.now = search rules in
    term_added c.args.instance.now c.push_term_rows.result (conds_seen c.args.term.now.conds) c.args.term.now.pieces _ _ _ _ _ _ tests exprs ranges c.push_term_rows.ensures
