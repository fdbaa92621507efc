use Rattle.std.proofs.Common.{ap, ◌∙◌}
use Rattle.wt_form.specs.Views.{terms_seen, ranges_seen, conds_seen}
use Rattle.wt_form.specs.FormOf.{list_expr, join_term}
use Rattle.wt_translate.proofs.Joining.{if_ok, rights_step}
use Rattle.wt_translate.proofs.terms.+joined_with.Goals as goal

pub returns-in_ok-term-in-More : goal.returns-in_ok-term-in-More
returns-in_ok-term-in-More t c =
    if_ok terms_seen _ _ _ c.before-in-More.ensures
    (rights_step (λ ps. list_expr c.args.of_left.head.now ps c.args.of_left.columns.anchor c.args.of_left.columns.list) (λ ps. list_expr c.args.of_right.head.now ps c.args.of_right.columns.anchor c.args.of_right.columns.list)
    (ranges_seen c.args.left.now.ranges) (conds_seen c.args.left.now.conds) c.args.left.now.pieces (terms_seen c.args.rights.now) (ranges_seen c.in-More.right.value.ranges) (conds_seen c.in-More.right.value.conds) c.in-More.right.value.pieces
    (terms_seen c.in-More.more.value) (terms_seen c.deref.result.now) (terms_seen c.args.rest) (terms_seen c.in_ok-rest-in-More.rest) _ (ap terms_seen c.in-More.is) (ap terms_seen c.deref.ensures) c.in_ok-rest-in-More.ensures
    (c.in_ok-term-in-More.ensures ∙ ap (λ r. join_term (λ ps. list_expr c.args.of_left.head.now ps c.args.of_left.columns.anchor c.args.of_left.columns.list) (λ ps. list_expr c.args.of_right.head.now ps c.args.of_right.columns.anchor c.args.of_right.columns.list)
    (ranges_seen c.args.left.now.ranges) (conds_seen c.args.left.now.conds) c.args.left.now.pieces (ranges_seen r.ranges) (conds_seen r.conds) r.pieces) c.deref-in-More.ensures))
