use Rattle.std.proofs.Common.{rules, ◌≡◌, ◌-◌, ◌∙◌, None, map, ap, sym, subst}
use Rattle.wt_plan.specs.Tree.{plan_tree, in_sub}
use Rattle.wt_query_plan.specs.Building as spec
use Rattle.wt_query_plan.specs.Telling.{Tells}
use Rattle.wt_conjunct.specs.Views.{conjunct_tree}
use Rattle.wt_conjunct.proofs.Lowered.{map_map}
use Rattle.wt_conjunct.proofs.stack.above_right.Goals as goal

pub returns-in_ok-at-in-IsIn : goal.returns-in_ok-at-in-IsIn
returns-in_ok-at-in-IsIn c =
    let cols = c.in-IsIn.cols in
    let at : c.in_ok-at-in-IsIn.at ≡ map (spec.at_place c.args.places.now) (map (λ k. k - c.args.n) cols) = search (rules, map_map (spec.at_place c.args.places.now) (λ k. k - c.args.n) cols) in
    let is : in_sub c.in_ok-at-in-IsIn.at (plan_tree c.args.plan) (plan_tree c.in-IsIn.subquery) ≡ spec.above c.args.places.now (spec.on_right c.args.n (conjunct_tree c.args.conjunct)) (plan_tree c.args.plan) =
    ap (λ l. in_sub l (plan_tree c.args.plan) (plan_tree c.in-IsIn.subquery)) at ∙ ap (λ j. spec.above c.args.places.now (spec.on_right c.args.n (conjunct_tree j)) (plan_tree c.args.plan)) (sym c.in-IsIn.is) in
    subst (λ t. Tells None (λ q. plan_tree q ≡ t) c.in_query.result) is c.in_query.ensures
