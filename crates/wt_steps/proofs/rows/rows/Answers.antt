use Rattle.wt_form.specs.Views.{term_seen}
use Rattle.wt_facts.specs.Facts.{known_of}
use Rattle.wt_steps.proofs.RowLaws.{rows_are}
use Rattle.wt_steps.proofs.rows.rows.Goals as goal

pub returns : goal.returns
returns c = rows_are (known_of c.args.facts.now) c.args.nested (term_seen c.args.term.now) _ _ _ c.in_ok-out.ensures.exact c.in_ok-push_by_joins.ensures c.in_ok-push_opened.ensures
