use Rattle.std.proofs.Common.{rules, ◌≡◌, ◌∷◌, true, false, refl}
use Rattle.std.specs.List.{list_any}
use Rattle.std.specs.Vec.Iter.{into_iter_items}
use Rattle.wt_value.specs.Values.{row_matches}
use Rattle.wt_instance.specs.Rows.{values_at}
use Rattle.wt_instance.proofs.NamedRows.{filter_goes_on, test_picked}
use Rattle.wt_instance.proofs.operator.keep_matched.Goals as goal

pub loop-row-preserved-in_ok-push : goal.loop-row-preserved-in_ok-push
loop-row-preserved-in_ok-push c =
    let split : into_iter_items c.loop-row.row-iterator ≡ c.in-Some.row ∷ into_iter_items c.next.new.self = search rules in
    filter_goes_on (λ left. list_any (λ right. row_matches (values_at c.args.anchors.now c.args.instance.now c.args.list left) right) c.args.rights.now) true _ _ _ _ _ c.in-Some.row split (test_picked true _ _ _ _ c.in_ok-list_values.ensures c.is_matched-in-loop-row.ensures c.if-is_matched.true) c.in_ok-push.ensures.ok c.loop-row.invariant

pub loop-row-preserved : goal.loop-row-preserved
loop-row-preserved c =
    let split : into_iter_items c.loop-row.row-iterator ≡ c.in-Some.row ∷ into_iter_items c.next.new.self = search rules in
    filter_goes_on (λ left. list_any (λ right. row_matches (values_at c.args.anchors.now c.args.instance.now c.args.list left) right) c.args.rights.now) false _ _ _ _ _ c.in-Some.row split (test_picked false _ _ _ _ c.in_ok-list_values.ensures c.is_matched-in-loop-row.ensures c.if-is_matched.false) refl c.loop-row.invariant
