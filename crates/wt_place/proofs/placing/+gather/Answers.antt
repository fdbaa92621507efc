use Rattle.std.proofs.Common.{rules, arith, ◌≡◌, ◌+◌, ◌<◌, ◌^◌, ◌++◌, [], map, ap, sym, subst, ◌∙◌}
use Rattle.std.specs.Prelude.{OnOk, IfOk, min}
use Rattle.wt_plan.specs.Tree.{plan_tree, inner_join}
use Rattle.wt_plan.specs.Measures.{width}
use Rattle.wt_plan.specs.WellFormed.{Narrow}
use Rattle.wt_plan.proofs.Narrowness.{narrow_width}
use Rattle.wt_place.specs.Placing as spec
use Rattle.wt_place.specs.Views.{condition_trees}
use Rattle.wt_place.proofs.NarrowKept.{narrow_bare}
use Rattle.wt_place.proofs.Sorting.{always, both_gathered, placed_from, small_min}
use Rattle.wt_place.proofs.placing.+gather.Goals as goal

pub gather-returns-in_ok-right-in-InnerJoin-clause-conditions : goal.gather-returns-in_ok-right-in-InnerJoin-clause-conditions
gather-returns-in_ok-right-in-InnerJoin-clause-conditions t c =
    let l = plan_tree c.in-InnerJoin.left.value in
    let r = plan_tree c.in-InnerJoin.right.value in
    let old = condition_trees c.args.out.now.items in
    let new = condition_trees c.gather-in-InnerJoin-2.new.out.items in
    let whole : plan_tree c.args.plan ≡ inner_join c.in-InnerJoin.a c.in-InnerJoin.b l r = ap plan_tree c.in-InnerJoin.is in
    let narrow : Narrow (inner_join c.in-InnerJoin.a c.in-InnerJoin.b l r) = subst Narrow whole c.requires.narrow in
    let w : c.width-width.result ≡ width l = c.width-width.ensures.exact ∙ ap (λ p. min _ (width (plan_tree p))) c.deref.ensures ∙ small_min (width l) (narrow_width l narrow.1) in
    let first : condition_trees c.gather-in-InnerJoin.new.out.items ≡ old ++ map (spec.moved (λ k. c.args.shift + k)) (spec.conditions l) = search rules in
    let second : new ≡ condition_trees c.gather-in-InnerJoin.new.out.items ++ map (spec.moved (λ k. (c.args.shift + c.width-width.result) + k)) (spec.conditions r) = search rules in
    let both = both_gathered c.args.shift c.width-width.result old _ new (spec.conditions l) (spec.conditions r) first second in
    always c.inner_joined.result
    (both ∙ ap (λ n. old ++ map (spec.moved (λ k. c.args.shift + k)) (spec.conditions l ++ map (spec.moved (λ k. n + k)) (spec.conditions r))) w
    ∙ ap (λ p. old ++ map (spec.moved (λ k. c.args.shift + k)) (spec.conditions p)) (sym whole))

pub into_placed-gather-requires : goal.into_placed-gather-requires
into_placed-gather-requires t c =
    let room : 0 + width (plan_tree c.args.plan) < 2 ^ 32 = omega (arith, narrow_width (plan_tree c.args.plan) c.requires.narrow) in
    search (rules, arith, room)

pub into_placed-settle-requires : goal.into_placed-settle-requires
into_placed-settle-requires t c = record { narrow = subst Narrow (sym c.in_ok-bare.ensures.bare) (narrow_bare (plan_tree c.args.plan) c.requires.narrow) }

pub into_placed-returns : goal.into_placed-returns
into_placed-returns t c =
    let p = plan_tree c.args.plan in
    let cs : condition_trees c.gather.new.out.items ≡ map (spec.moved (λ k. 0 + k)) (spec.conditions p) = search rules in
    let is : spec.settle (condition_trees c.gather.new.out.items) (plan_tree c.in_ok-bare.bare) ≡ spec.placed p = placed_from p _ _ cs c.in_ok-bare.ensures.bare in
    record { placed = subst (λ q. IfOk c.settle.result (λ s. plan_tree s ≡ q)) is (search rules) }
