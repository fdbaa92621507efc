use Rattle.std.proofs.Common.{ap, ◌∙◌, sym, subst, map, ◌++◌}
use Rattle.wt_form.specs.Views.{ranges_seen, conds_seen}
use Rattle.wt_form.specs.Parts.{expr_up, ranges_append}
use Rattle.wt_form.specs.FormOf.{list_expr}
use Rattle.wt_translate.specs.Bounds.{CanRise}
use Rattle.wt_translate.proofs.Joining.{list_rises, joined_one}
use Rattle.wt_translate.proofs.terms.joined_term.Goals as goal

pub risen-requires : goal.risen-requires
risen-requires c = subst (CanRise c.args.k) (sym (c.of-y.ensures ∙ ap (λ ps. list_expr c.args.of_right.head.now ps c.args.of_right.columns.anchor c.args.of_right.columns.list) c.as_slice-2.ensures)) (list_rises c.args.k c.args.of_right.head.now c.args.right.now.pieces c.args.of_right.columns.anchor c.args.of_right.columns.list c.requires.pieces)

pub returns : goal.returns
returns c =
    joined_one c.args.k (λ ps. list_expr c.args.of_left.head.now ps c.args.of_left.columns.anchor c.args.of_left.columns.list) (λ ps. list_expr c.args.of_right.head.now ps c.args.of_right.columns.anchor c.args.of_right.columns.list)
    (ranges_seen c.args.left.now.ranges) (conds_seen c.args.left.now.conds) c.args.left.now.pieces (ranges_seen c.args.right.now.ranges) (conds_seen c.args.right.now.conds) c.args.right.now.pieces
    _ _ _ _ _ _ _ _ c.requires.count (c.in_ok-ranges_then.ensures ∙ ap (ranges_append (ranges_seen c.args.left.now.ranges)) c.in_ok-ranges.ensures) (c.of-x.ensures ∙ ap (λ ps. list_expr c.args.of_left.head.now ps c.args.of_left.columns.anchor c.args.of_left.columns.list) c.as_slice.ensures) (c.of-y.ensures ∙ ap (λ ps. list_expr c.args.of_right.head.now ps c.args.of_right.columns.anchor c.args.of_right.columns.list) c.as_slice-2.ensures)
    c.risen.ensures c.in_ok-join.ensures c.in_ok-conds.ensures c.in_ok-conds_then.ensures (c.in_ok-joined_pieces.ensures ∙ ap (λ l. l ++ map (expr_up c.args.k) c.as_slice-4.result.now) c.as_slice-3.ensures ∙ ap (λ r. c.args.left.now.pieces ++ map (expr_up c.args.k) r) c.as_slice-4.ensures)
