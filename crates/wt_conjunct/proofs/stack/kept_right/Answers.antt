use Rattle.std.proofs.Common.{rules, ◌≡◌, ◌-◌, ◌∙◌, [], None, map, ap, sym, subst}
use Rattle.wt_pred.specs.Columns.{columns, renumbered, place_in}
use Rattle.wt_pred.specs.Tree.{pred_tree}
use Rattle.wt_pred.proofs.Using.{columns_there}
use Rattle.wt_plan.specs.Tree.{plan_tree, filtered}
use Rattle.wt_query_plan.specs.Building as spec
use Rattle.wt_query_plan.specs.Telling.{Tells}
use Rattle.wt_conjunct.proofs.Lowered.{kept_lowered}
use Rattle.wt_conjunct.proofs.stack.kept_right.Goals as goal

pub filtered-requires : goal.filtered-requires
filtered-requires c = record { there = columns_there [] _ (pred_tree c.args.pred) c.in_ok-cols.ensures.exact }

pub returns : goal.returns
returns c =
    let p = pred_tree c.args.pred in
    let cols : c.in_ok-cols.cols ≡ columns p = c.in_ok-cols.ensures.exact in
    let at : c.in_ok-at.at ≡ map (λ k. spec.at_place c.args.places.now (k - c.args.n)) (columns p) = search (rules, cols) in
    let is : filtered (renumbered (place_in c.in_ok-cols.cols) p) c.in_ok-at.at (plan_tree c.args.plan) ≡ spec.kept c.args.places.now (renumbered (λ k. k - c.args.n) p) (plan_tree c.args.plan) =
    (λ i. filtered (renumbered (place_in (cols i)) p) (at i) (plan_tree c.args.plan)) ∙ kept_lowered c.args.n c.args.places.now p (plan_tree c.args.plan) c.requires.right in
    subst (λ t. Tells None (λ q. plan_tree q ≡ t) c.filtered.result) is c.filtered.ensures
