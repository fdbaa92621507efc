use Rattle.std.proofs.Common.{ap, ◌∙◌}
use Rattle.wt_form.specs.Views.{terms_seen}
use Rattle.wt_form.specs.FormOf.{list_expr, join_terms}
use Rattle.wt_translate.proofs.SideForms.{append-none}
use Rattle.wt_translate.proofs.operators.inner_form.Goals as goal

pub returns-clause-terms : goal.returns-clause-terms
returns-clause-terms c =
    c.in_ok-terms.ensures ∙ append-none _ ∙ ap (λ h. join_terms (λ ps. list_expr h ps c.args.a.anchor c.args.a.list) (λ ps. list_expr c.as_slice-2.result.now ps c.args.b.anchor c.args.b.list) (terms_seen c.args.left.terms) (terms_seen c.args.right.now.terms)) c.as_slice.ensures
    ∙ ap (λ h. join_terms (λ ps. list_expr c.args.left.head ps c.args.a.anchor c.args.a.list) (λ ps. list_expr h ps c.args.b.anchor c.args.b.list) (terms_seen c.args.left.terms) (terms_seen c.args.right.now.terms)) c.as_slice-2.ensures
