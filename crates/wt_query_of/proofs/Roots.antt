-- What the conditions of the call say of the zones that are walked, and its clauses from the tree's definition.
use Rattle.std.proofs.Common.{◌≡◌, ℕ, suc, ◌+◌, ◌<◌, ◌^◌, List, length, map, Some, Result, Ok, Err, sym, ap, ◌∙◌, arith}
use Rattle.std.specs.Prelude.{IfOk}
use Rattle.wt_schema.specs.declared.schema.Table.{Table}
use Rattle.wt_ast.specs.Tree.{QueryTree}
use Rattle.wt_ast.specs.Tree as trees
use Rattle.wt_query_rows.specs.Scopes.{in_scope}
use Rattle.wt_plan.specs.Tree.{PlanTree}
use Rattle.wt_plan.specs.Tree as plans
use Rattle.wt_plan.specs.Measures.{width, cost}
use Rattle.wt_plan.specs.Regular.{Regular}
use Rattle.wt_blocks.specs.Blocks.{distinct, zone_of, plan_block}
use Rattle.wt_blocks.specs.Counting.{block_width, from_items, condition_items}
use Rattle.wt_blocks.specs.Printed.{alias_of, place_names, block_tree, from_tree, zone_columns}
use Rattle.wt_blocks.proofs.Rebuilt.{width_block, width_distinct, width_zone}
use Rattle.wt_blocks.proofs.Fitting.{zone_fits, items_few}
use Rattle.wt_blocks.proofs.Zones.{columns_width}

-- what follows from an answer that is Ok
pub then_ok : {A E : Type 0} {P Q : A → Type 0} (r : Result A E) → IfOk r P → ((x : A) → P x → Q x) → IfOk r Q
then_ok (Ok x) h f = f x h
then_ok (Err e) h f = tt

-- ---- a derived table with DISTINCT

distinct_width : (p : PlanTree) → block_width (distinct (plan_block p)) ≡ width p
distinct_width p = width_distinct (plan_block p) ∙ width_block (zone_of p) ∙ width_zone p

pub distinct_from : (S : List Table) (n item m w : ℕ) (p : PlanTree) (q : QueryTree) → q ≡ block_tree S m (distinct (plan_block p)) → m ≡ n + 1 → item ≡ n → w ≡ width p
    → trees.derived q (alias_of item) (Some (place_names w)) 0 0 ≡ from_tree S n (zone_of (plans.dedup p))
distinct_from S n item m w p q e next is wide =
    let up : m ≡ suc n = omega (arith, next) in
    λ i. trees.derived ((e ∙ ap (λ k. block_tree S k (distinct (plan_block p))) up) i) (alias_of (is i)) (Some (place_names ((wide ∙ sym (distinct_width p)) i))) 0 0

pub distinct_columns : (S : List Table) (n item w : ℕ) (p : PlanTree) → item ≡ n → w ≡ width p → map (in_scope (alias_of item)) (place_names w) ≡ zone_columns S n (zone_of (plans.dedup p))
distinct_columns S n item w p is wide = λ i. map (in_scope (alias_of (is i))) (place_names ((wide ∙ sym (distinct_width p)) i))

-- ---- how many columns a zone has

pub as_many : (S : List Table) (p : PlanTree) (names : List (List ℕ)) → Regular S p → length names ≡ width p → length (zone_columns S 0 (zone_of p)) ≡ length names
as_many S p names regular e = columns_width S 0 (zone_of p) (zone_fits S p regular.well_formed.places regular.nodes) ∙ width_zone p ∙ sym e

pub as_many_below : (S : List Table) (p : PlanTree) (names : List (List ℕ)) → Regular S (plans.dedup p) → length names ≡ width (plans.dedup p) → length (zone_columns S 0 (zone_of p)) ≡ length names
as_many_below S p names regular e = columns_width S 0 (zone_of p) (zone_fits S p regular.well_formed.places regular.nodes.1) ∙ width_zone p ∙ sym e

-- ---- room for the numbers of FROM items

pub room_for : (p : PlanTree) → 1 + cost p < 2 ^ 62 → 1 + (from_items (zone_of p) + condition_items (zone_of p)) < 2 ^ 62
room_for p h = omega (arith, items_few p, h)
