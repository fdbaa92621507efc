use Rattle.std.proofs.Common.{ap, ◌∙◌, [], ◌∷◌}
use Rattle.wt_symbol.specs.declared.head.PartCols.TheVariants.{List as list_cols}
use Rattle.wt_form.specs.Trees.{not_in}
use Rattle.wt_form.specs.Parts.{terms_append}
use Rattle.wt_form.specs.Views.{terms_seen}
use Rattle.wt_form.specs.FormOf.{each_term, list_expr, proj_term, null_term, join_terms}
use Rattle.wt_translate.proofs.SideForms.{append-none}
use Rattle.wt_translate.proofs.operators.left_form.Goals as goal

pub returns-clause-terms : goal.returns-clause-terms
returns-clause-terms c =
    c.in_ok-terms.ensures
    ∙ ap (λ ts. terms_append ts (terms_seen c.in_ok-alone.alone)) (c.in_ok-matched.ensures ∙ append-none _ ∙ ap (λ h. join_terms (λ ps. list_expr h ps c.args.a.anchor c.args.a.list) (λ ps. list_expr c.as_slice-2.result.now ps c.args.b.anchor c.args.b.list) (terms_seen c.args.left.terms) (terms_seen c.args.right.now.terms)) c.as_slice.ensures
    ∙ ap (λ h. join_terms (λ ps. list_expr c.args.left.head ps c.args.a.anchor c.args.a.list) (λ ps. list_expr h ps c.args.b.anchor c.args.b.list) (terms_seen c.args.left.terms) (terms_seen c.args.right.now.terms)) c.as_slice-2.ensures)
    ∙ ap (terms_append (join_terms (λ ps. list_expr c.args.left.head ps c.args.a.anchor c.args.a.list) (λ ps. list_expr c.args.right.now.head ps c.args.b.anchor c.args.b.list) (terms_seen c.args.left.terms) (terms_seen c.args.right.now.terms))) (c.in_ok-alone.ensures
    ∙ ap (λ h. each_term (null_term (λ ps. not_in (list_expr h ps c.args.a.anchor c.args.a.list) c.in_ok-listed.listed.head (terms_seen c.in_ok-listed.listed.terms)) c.as_slice-parts.result.now) (terms_seen c.args.left.terms)) c.as_slice-3.ensures
    ∙ ap (λ h. each_term (null_term (λ ps. not_in (list_expr c.args.left.head ps c.args.a.anchor c.args.a.list) h (terms_seen c.in_ok-listed.listed.terms)) c.as_slice-parts.result.now) (terms_seen c.args.left.terms)) c.in_ok-listed.ensures.head
    ∙ ap (λ h. each_term (null_term (λ ps. not_in (list_expr c.args.left.head ps c.args.a.anchor c.args.a.list) (record { leaf = c.args.b.anchor; cols = list_cols c.args.b.list } ∷ []) (h)) c.as_slice-parts.result.now) (terms_seen c.args.left.terms)) c.in_ok-listed.ensures.terms
    ∙ ap (λ h. each_term (null_term (λ ps. not_in (list_expr c.args.left.head ps c.args.a.anchor c.args.a.list) (record { leaf = c.args.b.anchor; cols = list_cols c.args.b.list } ∷ []) (each_term (proj_term (λ ps. list_expr c.args.right.now.head ps c.args.b.anchor c.args.b.list)) (terms_seen c.args.right.now.terms))) h) (terms_seen c.args.left.terms)) c.as_slice-parts.ensures)
