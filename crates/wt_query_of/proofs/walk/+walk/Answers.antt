use Rattle.std.proofs.Common.{rules, ◌≡◌, ◌<◌, ◌≤◌, ◌+◌, ◌-◌, ◌^◌, ◌++◌, Some, map, ap, sym, subst, ◌∙◌, append_assoc, arith}
use Rattle.std.specs.Prelude.{min, IfOk}
use Rattle.std.proofs.lemmas.List.Elements.{All-pop}
use Rattle.wt_ast.specs.Tree.{query_tree}
use Rattle.wt_ast.specs.Tree as trees
use Rattle.wt_plan.specs.Tree.{plan_tree, dedup}
use Rattle.wt_plan.specs.declared.plan.Plan.{size-Plan}
use Rattle.wt_plan.specs.Measures.{width, cost}
use Rattle.wt_plan.specs.WellFormed.{Narrow}
use Rattle.wt_plan.proofs.Narrowness.{narrow_width}
use Rattle.wt_place.proofs.Sorting.{small_min}
use Rattle.wt_blocks.specs.Blocks.{zone_of, plan_block, distinct}
use Rattle.wt_blocks.specs.Counting.{from_items, condition_items}
use Rattle.wt_blocks.specs.Printed as spec
use Rattle.wt_tree_parts.specs.Leaves.{scope_of_leaves}
use Rattle.wt_query_of.specs.Descents.{AreDown, IsItem, above_columns, above_from, added_conditions, added_items, bottom, first_of, items_behind}
use Rattle.wt_query_of.proofs.Descents.{behind_bottom, bottom_last, columns_above, conditions_above, cost_bottom, down_last, from_above, from_bottom, items_above, items_behind_above, narrow_bottom}
use Rattle.wt_query_of.proofs.Roots.{distinct_from, distinct_columns}
use Rattle.wt_query_of.proofs.walk.+walk.Goals as goal

pub item_part-returns-in_ok-query-in-Dedup-clause-from : goal.item_part-returns-in_ok-query-in-Dedup-clause-from
item_part-returns-in_ok-query-in-Dedup-clause-from t c =
    let S = c.args.schema.now.tables in
    let n = c.args.next.now in
    let inner = plan_tree c.in-Dedup.inner.value in
    let whole : plan_tree c.args.item.now ≡ dedup inner = ap plan_tree c.in-Dedup.is in
    let w : c.width-in-Dedup.result ≡ width inner = c.width-in-Dedup.ensures.exact ∙ ap (λ p. min (2 ^ 32 - 1) (width p)) whole ∙ small_min (width inner) (narrow_width inner (subst Narrow whole c.requires.narrow)) in
    let q : query_tree c.in_ok-query-in-Dedup.query ≡ spec.block_tree S c.taken-number.new.next (distinct (plan_block inner)) =
    c.in_ok-query-in-Dedup.ensures.tree ∙ ap (λ p. spec.block_tree S c.taken-number.new.next (distinct (plan_block (plan_tree p)))) c.deref-in-Dedup.ensures
    in
    let is = distinct_from S n c.taken-number.result c.taken-number.new.next c.width-in-Dedup.result inner (query_tree c.in_ok-query-in-Dedup.query) q c.taken-number.ensures.next c.taken-number.ensures.number w in
    subst (λ f. IfOk c.derived_part-in-Dedup.result (λ p. trees.from_tree p.from.value ≡ f)) (is ∙ ap (λ p. spec.from_tree S n (zone_of p)) (sym whole)) c.derived_part-in-Dedup.ensures.from

pub item_part-returns-in_ok-query-in-Dedup-clause-columns : goal.item_part-returns-in_ok-query-in-Dedup-clause-columns
item_part-returns-in_ok-query-in-Dedup-clause-columns t c =
    let S = c.args.schema.now.tables in
    let n = c.args.next.now in
    let inner = plan_tree c.in-Dedup.inner.value in
    let whole : plan_tree c.args.item.now ≡ dedup inner = ap plan_tree c.in-Dedup.is in
    let w : c.width-in-Dedup.result ≡ width inner = c.width-in-Dedup.ensures.exact ∙ ap (λ p. min (2 ^ 32 - 1) (width p)) whole ∙ small_min (width inner) (narrow_width inner (subst Narrow whole c.requires.narrow)) in
    let is = distinct_columns S n c.taken-number.result c.width-in-Dedup.result inner c.taken-number.ensures.number w in
    subst (λ l. IfOk c.derived_part-in-Dedup.result (λ p. scope_of_leaves S p.leaves.items ≡ l)) (is ∙ ap (λ p. spec.zone_columns S n (zone_of p)) (sym whole)) (c.derived_part-in-Dedup.ensures.columns S)

pub part-item_part-requires : goal.part-item_part-requires
part-item_part-requires t c =
    let p = plan_tree c.args.plan.now in
    let d = c.in_ok-operators.field-0 in
    let at : plan_tree d.item.now ≡ bottom p d.operators.items = c.in_ok-operators.ensures.bottom in
    let narrow : Narrow (plan_tree d.item.now) = subst Narrow (sym at) (narrow_bottom p d.operators.items c.requires.narrow) in
    let cheap : cost (plan_tree d.item.now) < 2 ^ 62 = subst (λ q. cost q < 2 ^ 62) (sym at) (omega (arith, cost_bottom p d.operators.items, c.requires.cheap)) in
    let room : c.args.next.now + from_items (zone_of (plan_tree d.item.now)) < 2 ^ 62 =
    subst (λ q. c.args.next.now + from_items (zone_of q) < 2 ^ 62) (sym at) (omega (arith, from_bottom p d.operators.items, c.requires.room))
    in
    let item : IsItem (plan_tree d.item.now) = c.in_ok-operators.ensures.item in
    let small : size-Plan d.item.now ≤ size-Plan c.args.plan.now = c.in_ok-operators.ensures.item_within in
    search (rules, arith, narrow, cheap, room, item, small)

pub part-above-requires : goal.part-above-requires
part-above-requires t c =
    let p = plan_tree c.args.plan.now in
    let rest = c.pop.new.self.items in
    let b = plan_tree c.in-Some.operator.now in
    let popped = c.in-Some.ensures.items in
    let is : b ≡ bottom p rest = (down_last p rest c.in-Some.operator (subst (AreDown p) popped c.operators.invariant.down)).0 in
    let low : bottom p c.operators.operators.items ≡ first_of b = ap (bottom p) popped ∙ bottom_last p rest c.in-Some.operator ∙ ap first_of (sym is) in
    let small : size-Plan c.in-Some.operator.now ≤ size-Plan c.args.plan.now =
    (All-pop (λ s. size-Plan s.now ≤ size-Plan c.args.plan.now) c.operators.operators.items rest (Some c.in-Some.operator) popped c.operators.invariant.within).1
    in
    let narrow : Narrow b = subst Narrow (sym is) (narrow_bottom p rest c.requires.narrow) in
    let cheap : cost b < 2 ^ 62 = subst (λ q. cost q < 2 ^ 62) (sym is) (omega (arith, cost_bottom p rest, c.requires.cheap)) in
    let next : c.operators.next ≡ c.args.next.now + from_items (zone_of (first_of b)) = c.operators.invariant.next ∙ ap (λ q. c.args.next.now + from_items (zone_of q)) low in
    let behind : c.operators.behind ≡ c.args.behind.now + condition_items (zone_of (first_of b)) = c.operators.invariant.behind ∙ ap (λ q. c.args.behind.now + condition_items (zone_of q)) low in
    let fits : from_items (zone_of b) ≤ from_items (zone_of p) = subst (λ q. from_items (zone_of q) ≤ from_items (zone_of p)) (sym is) (from_bottom p rest) in
    let fits_behind : condition_items (zone_of b) ≤ condition_items (zone_of p) = subst (λ q. condition_items (zone_of q) ≤ condition_items (zone_of p)) (sym is) (behind_bottom p rest) in
    let room : c.operators.next + (added_items b + items_behind b) < 2 ^ 62 = omega (arith, next, items_above b, items_behind_above b, fits, fits_behind, c.requires.room) in
    let room_behind : c.operators.behind + items_behind b < 2 ^ 62 = omega (arith, behind, items_behind_above b, fits_behind, c.requires.behind) in
    search (rules, arith, narrow, cheap, room, room_behind, small)

pub part-operators-preserved : goal.part-operators-preserved
part-operators-preserved t c =
    let p = plan_tree c.args.plan.now in
    let S = c.args.schema.now.tables in
    let n = c.args.next.now in
    let m = c.args.behind.now in
    let before = map trees.condition_tree c.args.conditions.now.items in
    let rest = c.pop.new.self.items in
    let b = plan_tree c.in-Some.operator.now in
    let popped = c.in-Some.ensures.items in
    let known = c.operators.invariant in
    let (is, down) = down_last p rest c.in-Some.operator (subst (AreDown p) popped known.down) in
    let low : bottom p c.operators.operators.items ≡ first_of b = ap (bottom p) popped ∙ bottom_last p rest c.in-Some.operator ∙ ap first_of (sym is) in
    let next : c.operators.next ≡ n + from_items (zone_of (first_of b)) = known.next ∙ ap (λ q. n + from_items (zone_of q)) low in
    let behind : c.operators.behind ≡ m + condition_items (zone_of (first_of b)) = known.behind ∙ ap (λ q. m + condition_items (zone_of q)) low in
    let from : trees.from_tree c.operators.built.from.value ≡ spec.from_tree S n (zone_of (first_of b)) = known.from ∙ ap (λ q. spec.from_tree S n (zone_of q)) low in
    let columns : scope_of_leaves S c.operators.built.leaves.items ≡ spec.zone_columns S n (zone_of (first_of b)) = known.columns ∙ ap (λ q. spec.zone_columns S n (zone_of q)) low in
    let conditions : map trees.condition_tree c.operators.conditions.items ≡ before ++ spec.condition_trees S n m (zone_of (first_of b)) =
    known.conditions ∙ ap (λ q. before ++ spec.condition_trees S n m (zone_of q)) low
    in
    let added = added_conditions S (n + from_items (zone_of (first_of b))) (m + condition_items (zone_of (first_of b))) (spec.zone_columns S n (zone_of (first_of b))) b in
    record {
      down = down;
      within = (All-pop (λ s. size-Plan s.now ≤ size-Plan c.args.plan.now) c.operators.operators.items rest (Some c.in-Some.operator) popped known.within).0;
      from = c.in_ok-built-2.ensures.from ∙ (λ i. above_from S (next i) (from i) (columns i) b) ∙ from_above S n b ∙ ap (λ q. spec.from_tree S n (zone_of q)) is;
      columns = c.in_ok-built-2.ensures.columns ∙ (λ i. above_columns S (next i) (columns i) b) ∙ columns_above S n b ∙ ap (λ q. spec.zone_columns S n (zone_of q)) is;
      conditions = c.in_ok-built-2.ensures.conditions
          ∙ (λ i. conditions i ++ added_conditions S (next i) (behind i) (columns i) b)
          ∙ append_assoc before (spec.condition_trees S n m (zone_of (first_of b))) added
          ∙ ap (λ l. before ++ l) (conditions_above S n m b)
          ∙ ap (λ q. before ++ spec.condition_trees S n m (zone_of q)) is;
      next = omega (arith, c.in_ok-built-2.ensures.next, next, items_above b, ap (λ q. from_items (zone_of q)) is);
      behind = omega (arith, c.in_ok-built-2.ensures.behind, behind, items_behind_above b, ap (λ q. condition_items (zone_of q)) is);
    }
