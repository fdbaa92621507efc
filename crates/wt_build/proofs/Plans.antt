-- What holds of the plan of a statement.
use Rattle.std.proofs.Common.{◌≡◌, ◌≤◌, List, [], length, Result, Ok, Err, ap, sym, subst, ◌∙◌, arith}
use Rattle.std.specs.Prelude.{IfOk}
use Rattle.wt_ast.specs.Lawful.{IsLawful}
use Rattle.wt_ast.specs.Tree.{QueryTree}
use Rattle.wt_schema.specs.declared.schema.Table.{Table}
use Rattle.wt_schema.specs.Lawful.{IsSchema}
use Rattle.wt_value.specs.Values.{Tuple, IsOneBag}
use Rattle.wt_plan.specs.declared.plan.Named.{Named}
use Rattle.wt_plan.specs.Tree.{plan_tree}
use Rattle.wt_plan.specs.Measures.{width, node_count}
use Rattle.wt_plan.specs.Regular.{Regular}
use Rattle.wt_plan.specs.Rows.{plan_rows}
use Rattle.wt_place.specs.Placing.{placed}
use Rattle.wt_place.specs.Keeping.{IsPlaced}
use Rattle.wt_place.proofs.Measured.{nodes_kept}
use Rattle.wt_place.proofs.NarrowKept.{width_placed}
use Rattle.wt_place.proofs.Regularity.{regular_placed}
use Rattle.wt_placed.proofs.Again.{is_placed}
use Rattle.wt_regular.proofs.Regulars.{regular_plan}
use Rattle.wt_query_rows.specs.Rows.{query_rows}
use Rattle.wt_query_plan.specs.declared.fault.BuildError.{BuildError}
use Rattle.wt_query_plan.specs.Building.{planned}
use Rattle.wt_query_plan.specs.Faults.{query_fault}
use Rattle.wt_query_plan.specs.Standing.{RowsFit}
use Rattle.wt_query_plan.specs.Telling.{Tells}
use Rattle.wt_query_plan.proofs.InRange.{built_law}
use Rattle.wt_query_bounds.specs.Bounds.{items_in, conjuncts_in}
use Rattle.wt_query_bounds.proofs.Counting.{query_nodes}
use Rattle.wt_query_bounds.proofs.Narrowing.{query_width}
use Rattle.wt_build.specs.Plans.{IsPlan}

abbrev pub Told : List Table → QueryTree → Result Named BuildError → Type 0
Told S q r = Tells (query_fault S [] q) (IsPlan S q) r

module _ (S : List Table) (q : QueryTree) where
  pub rows_told : (r : Result Named BuildError) → Told S q r → IfOk r (λ named. (base : List (List Tuple)) → RowsFit S base → IsOneBag (query_rows S base q) (plan_rows base (plan_tree named.plan)))
  rows_told (Ok named) h = λ base fit. subst (λ p. IsOneBag (query_rows S base q) (plan_rows base p)) (sym h.1.0) (built_law base S fit q h.0)
  rows_told (Err e) h = tt

  pub names_told : (r : Result Named BuildError) → Told S q r → IfOk r (λ named. length named.names ≡ width (plan_tree named.plan))
  names_told (Ok named) h = ap length h.1.1 ∙ sym (query_width S q [] h.0) ∙ sym (width_placed (planned S q)) ∙ ap width (sym h.1.0)
  names_told (Err e) h = tt

  pub nodes_told : (r : Result Named BuildError) → items_in q ≤ 256 → Told S q r → conjuncts_in q ≤ 256 → IfOk r (λ named. node_count (plan_tree named.plan) ≤ 1280)
  nodes_told (Ok named) few h small = let is : node_count (plan_tree named.plan) ≡ node_count (placed (planned S q)) = ap node_count h.1.0 in omega (arith, is, nodes_kept (planned S q), query_nodes S q, few, small)
  nodes_told (Err e) few h small = tt

  pub regular_told : (r : Result Named BuildError) → IsSchema S → Told S q r → IsLawful q → IfOk r (λ named. Regular S (plan_tree named.plan))
  regular_told (Ok named) schema h lawful = subst (Regular S) (sym h.1.0) (regular_placed S (planned S q) (regular_plan S schema q lawful h.0))
  regular_told (Err e) schema h lawful = tt

  pub placed_told : (r : Result Named BuildError) → Told S q r → IfOk r (λ named. IsPlaced (plan_tree named.plan))
  placed_told (Ok named) h = subst IsPlaced (sym h.1.0) (is_placed (planned S q))
  placed_told (Err e) h = tt
