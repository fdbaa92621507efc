use Rattle.std.proofs.Common.{ap, ◌∙◌}
use Rattle.wt_form.specs.Trees.{is_in}
use Rattle.wt_form.specs.Views.{terms_seen}
use Rattle.wt_form.specs.FormOf.{each_term, list_expr, cond_term}
use Rattle.wt_translate.proofs.translate.contained_form.Goals as goal

pub returns-clause-terms : goal.returns-clause-terms
returns-clause-terms c =
    c.in_ok-terms.ensures ∙ ap (λ h. each_term (cond_term (λ ps. is_in (list_expr h ps c.args.columns.anchor c.args.columns.list) c.args.right.head (terms_seen c.args.right.terms))) (terms_seen c.args.form.terms)) c.as_slice.ensures
