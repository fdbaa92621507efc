use Rattle.std.proofs.Common.{rules, ◌≡◌, List, IfOk, subst, sym}
use Rattle.wt_value.specs.Values.{Tuple, IsOneBag}
use Rattle.wt_plan.specs.Tree.{PlanTree, plan_tree}
use Rattle.wt_plan.specs.Measures as measures
use Rattle.wt_plan.specs.Rows.{plan_rows, TablesWide}
use Rattle.wt_plan.specs.WellFormed.{Narrow}
use Rattle.wt_place.specs.Placing.{placed}
use Rattle.wt_place.specs.Keeping.{ConditionsFit}
use Rattle.wt_place.proofs.Fitting.{conditions_fit, all_fit, if_tree}
use Rattle.wt_place.proofs.Measured.{cost_kept, nodes_kept}
use Rattle.wt_place.proofs.NarrowKept.{width_placed}
use Rattle.wt_place.proofs.PlaceLaw.{place_law}
use Rattle.wt_place.proofs.Regularity.{regular_placed}
use Rattle.wt_plan.specs.Regular.{Regular}
use Rattle.wt_schema.specs.declared.schema.Table.{Table}
use Rattle.wt_place.proofs.placing.place.Goals as goal

pub into_placed-requires : goal.into_placed-requires
into_placed-requires c = record {
  fits = subst ConditionsFit (sym c.in_ok-copy.ensures.exact) (conditions_fit (plan_tree c.args.plan.now) c.requires.well_formed.places);
  narrow = subst Narrow (sym c.in_ok-copy.ensures.exact) c.requires.well_formed.narrow;
}

pub returns-clause-placed : goal.returns-clause-placed
returns-clause-placed c = subst (λ t. IfOk c.into_placed.result (λ p. plan_tree p ≡ placed t)) c.in_ok-copy.ensures.exact c.into_placed.ensures.placed

pub returns-clause-rows : goal.returns-clause-rows
returns-clause-rows c =
    let t = plan_tree c.args.plan.now in
    let is = subst (λ s. IfOk c.into_placed.result (λ p. plan_tree p ≡ placed s)) c.in_ok-copy.ensures.exact c.into_placed.ensures.placed in
    if_tree (placed t) (λ q. (base : List (List Tuple)) → TablesWide base t → IsOneBag (plan_rows base t) (plan_rows base q)) c.into_placed.result is
    (λ base k. place_law base t (all_fit base t (conditions_fit t c.requires.well_formed.places) k))

pub returns-clause-width : goal.returns-clause-width
returns-clause-width c =
    let t = plan_tree c.args.plan.now in
    let is = subst (λ s. IfOk c.into_placed.result (λ p. plan_tree p ≡ placed s)) c.in_ok-copy.ensures.exact c.into_placed.ensures.placed in
    if_tree (placed t) (λ q. measures.width q ≡ measures.width t) c.into_placed.result is (width_placed t)

pub returns-clause-cost : goal.returns-clause-cost
returns-clause-cost c =
    let t = plan_tree c.args.plan.now in
    let is = subst (λ s. IfOk c.into_placed.result (λ p. plan_tree p ≡ placed s)) c.in_ok-copy.ensures.exact c.into_placed.ensures.placed in
    if_tree (placed t) (λ q. measures.cost q ≡ measures.cost t) c.into_placed.result is (cost_kept t)

pub returns-clause-nodes : goal.returns-clause-nodes
returns-clause-nodes c =
    let t = plan_tree c.args.plan.now in
    let is = subst (λ s. IfOk c.into_placed.result (λ p. plan_tree p ≡ placed s)) c.in_ok-copy.ensures.exact c.into_placed.ensures.placed in
    if_tree (placed t) (λ q. measures.node_count q ≡ measures.node_count t) c.into_placed.result is (nodes_kept t)

pub returns-clause-regular : goal.returns-clause-regular
returns-clause-regular c =
    let t = plan_tree c.args.plan.now in
    let is = subst (λ s. IfOk c.into_placed.result (λ p. plan_tree p ≡ placed s)) c.in_ok-copy.ensures.exact c.into_placed.ensures.placed in
    if_tree (placed t) (λ q. (S : List Table) → Regular S t → Regular S q) c.into_placed.result is (λ S h. regular_placed S t h)
