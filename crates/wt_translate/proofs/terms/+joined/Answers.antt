use Rattle.std.proofs.Common.{ap, ◌∙◌, refl}
use Rattle.wt_form.specs.Views.{terms_seen, ranges_seen, conds_seen}
use Rattle.wt_form.specs.Parts.{terms_append}
use Rattle.wt_form.specs.FormOf.{each_term, list_expr, join_term}
use Rattle.wt_translate.proofs.Joining.{if_ok, lefts_step}
use Rattle.wt_translate.proofs.terms.+joined.Goals as goal

pub returns-in_ok-rest-in-More : goal.returns-in_ok-rest-in-More
returns-in_ok-rest-in-More t c =
    if_ok terms_seen _ _ _ c.joined_with.ensures
    (ap (λ l. terms_append (each_term (join_term (λ ps. list_expr c.args.of_left.head.now ps c.args.of_left.columns.anchor c.args.of_left.columns.list) (λ ps. list_expr c.args.of_right.head.now ps c.args.of_right.columns.anchor c.args.of_right.columns.list)
    (ranges_seen l.ranges) (conds_seen l.conds) l.pieces) (terms_seen c.args.rights.now)) (terms_seen c.in_ok-rest-in-More.rest)) c.deref-in-More-2.ensures
    ∙ lefts_step (λ ps. list_expr c.args.of_left.head.now ps c.args.of_left.columns.anchor c.args.of_left.columns.list) (λ ps. list_expr c.args.of_right.head.now ps c.args.of_right.columns.anchor c.args.of_right.columns.list)
    (terms_seen c.args.lefts.now) (ranges_seen c.in-More.left.value.ranges) (conds_seen c.in-More.left.value.conds) c.in-More.left.value.pieces (terms_seen c.in-More.more.value) (terms_seen c.deref.result.now) (terms_seen c.args.rights.now) (terms_seen c.args.rest)
    (terms_seen c.in_ok-rest-in-More.rest) _ (ap terms_seen c.in-More.is) (ap terms_seen c.deref.ensures) c.in_ok-rest-in-More.ensures refl)
