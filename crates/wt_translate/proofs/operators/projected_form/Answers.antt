use Rattle.std.proofs.Common.{ap, ◌∙◌}
use Rattle.wt_form.specs.Views.{terms_seen}
use Rattle.wt_form.specs.FormOf.{each_term, list_expr, proj_term}
use Rattle.wt_translate.proofs.operators.projected_form.Goals as goal

pub returns-clause-terms : goal.returns-clause-terms
returns-clause-terms c = c.in_ok-terms.ensures ∙ ap (λ h. each_term (proj_term (λ ps. list_expr h ps c.args.columns.anchor c.args.columns.list)) (terms_seen c.args.form.terms)) c.as_slice.ensures
