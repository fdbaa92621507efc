use Rattle.std.proofs.Common.{rules, ◌≡◌, ◌<◌, ◌^◌, IfOk, ap, sym, subst, ◌∙◌}
use Rattle.wt_plan.specs.Tree.{plan_tree, inner_join, left_join}
use Rattle.wt_plan.specs.Measures.{width}
use Rattle.wt_plan.specs.WellFormed.{Narrow}
use Rattle.wt_plan.proofs.Narrowness.{narrow_width}
use Rattle.wt_place.specs.Placing as spec
use Rattle.wt_place.specs.Views.{condition_trees}
use Rattle.wt_place.proofs.Sorting.{settle_inner, settle_left, small_min}
use Rattle.wt_place.proofs.placing.+settle.Goals as goal

pub returns-in_ok-inner_joined-in-InnerJoin : goal.returns-in_ok-inner_joined-in-InnerJoin
returns-in_ok-inner_joined-in-InnerJoin t c =
    let cs = condition_trees c.args.conditions.items in
    let l = plan_tree c.in-InnerJoin.left.value in
    let r = plan_tree c.in-InnerJoin.right.value in
    let whole : plan_tree c.args.plan ≡ inner_join c.in-InnerJoin.a c.in-InnerJoin.b l r = ap plan_tree c.in-InnerJoin.is in
    let narrow : Narrow (inner_join c.in-InnerJoin.a c.in-InnerJoin.b l r) = subst Narrow whole c.requires.narrow in
    let w : c.width-width.result ≡ width l = c.width-width.ensures.exact ∙ ap (λ p. Rattle.std.specs.Prelude.min _ (width (plan_tree p))) c.deref.ensures ∙ small_min (width l) (narrow_width l narrow.1) in
    let placed = settle_inner cs _ _ _ _ _ c.in-InnerJoin.a c.in-InnerJoin.b l r c.width-width.result w c.in_ok-below-in-InnerJoin.ensures.inside c.in_ok-below-in-InnerJoin.ensures.outside
    c.in_ok-beside-in-InnerJoin.ensures.inside c.in_ok-beside-in-InnerJoin.ensures.outside c.in_ok-lowered-in-InnerJoin.ensures in
    subst (λ p. IfOk c.stand.result (λ q. plan_tree q ≡ p)) (placed ∙ ap (spec.settle cs) (sym whole)) (search rules)

pub returns-in_ok-join-in-LeftJoin : goal.returns-in_ok-join-in-LeftJoin
returns-in_ok-join-in-LeftJoin t c =
    let cs = condition_trees c.args.conditions.items in
    let l = plan_tree c.in-LeftJoin.left.value in
    let r = plan_tree c.in-LeftJoin.right.value in
    let whole : plan_tree c.args.plan ≡ left_join c.in-LeftJoin.a c.in-LeftJoin.b l r = ap plan_tree c.in-LeftJoin.is in
    let narrow : Narrow (left_join c.in-LeftJoin.a c.in-LeftJoin.b l r) = subst Narrow whole c.requires.narrow in
    let w : c.width.result ≡ width l = c.width.ensures.exact ∙ ap (λ p. Rattle.std.specs.Prelude.min _ (width (plan_tree p))) c.deref-in-LeftJoin.ensures ∙ small_min (width l) (narrow_width l narrow.1) in
    let placed = settle_left cs _ _ c.in-LeftJoin.a c.in-LeftJoin.b l r c.width.result w c.in_ok-below-in-LeftJoin.ensures.inside c.in_ok-below-in-LeftJoin.ensures.outside in
    subst (λ p. IfOk c.stand-in-LeftJoin.result (λ q. plan_tree q ≡ p)) (placed ∙ ap (spec.settle cs) (sym whole)) (search rules)
