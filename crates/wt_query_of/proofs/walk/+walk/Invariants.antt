use Rattle.std.proofs.Common.{◌≡◌, ◌≤◌, ◌+◌, ◌*◌, ◌++◌, map, vec_len}
use Rattle.std.specs.List.{All}
use Rattle.wt_ast.specs.Tree.{condition_tree}
use Rattle.wt_ast.specs.Tree as trees
use Rattle.wt_plan.specs.declared.plan.Plan.{size-Plan}
use Rattle.wt_plan.specs.Tree.{plan_tree}
use Rattle.wt_blocks.specs.Blocks.{zone_of}
use Rattle.wt_blocks.specs.Counting.{from_items, condition_items}
use Rattle.wt_blocks.specs.Printed as spec
use Rattle.wt_tree_parts.specs.Leaves.{scope_of_leaves}
use Rattle.wt_query_of.specs.Descents.{AreDown, bottom}
use Rattle.wt_query_of.proofs.walk.+walk.Given as goal

abbrev pub decreases-item_part : goal.decreases-item_part
decreases-item_part l = 6 * goal.size-item_part l

abbrev pub decreases-above : goal.decreases-above
decreases-above l = 6 * goal.size-above l

abbrev pub decreases-part : goal.decreases-part
decreases-part l = 1 + 6 * goal.size-part l

abbrev pub decreases-zone : goal.decreases-zone
decreases-zone l = 2 + 6 * goal.size-zone l

abbrev pub decreases-starred : goal.decreases-starred
decreases-starred l = 3 + 6 * goal.size-starred l

abbrev pub decreases-listed : goal.decreases-listed
decreases-listed l = 3 + 6 * goal.size-listed l

abbrev pub decreases-distinct_block : goal.decreases-distinct_block
decreases-distinct_block l = 4 + 6 * goal.size-distinct_block l

abbrev pub decreases-whole_block : goal.decreases-whole_block
decreases-whole_block l = 4 + 6 * goal.size-whole_block l

abbrev pub invariant-part-operators : goal.invariant-part-operators
invariant-part-operators l =
    let p = plan_tree l.fn.plan in
    let S = l.fn.schema.tables in
    let zone = zone_of (bottom p l.operators.items) in
    record {
      down : AreDown p l.operators.items;
      within : All (λ s. size-Plan s.now ≤ size-Plan l.fn.plan) l.operators.items;
      from : trees.from_tree l.built.from.value ≡ spec.from_tree S l.fn.next zone;
      columns : scope_of_leaves S l.built.leaves.items ≡ spec.zone_columns S l.fn.next zone;
      conditions : map condition_tree l.conditions.items ≡ map condition_tree l.fn.conditions.items ++ spec.condition_trees S l.fn.next l.fn.behind zone;
      next : l.next ≡ l.fn.next + from_items zone;
      behind : l.behind ≡ l.fn.behind + condition_items zone;
    }

abbrev pub decreases-part-operators : goal.decreases-part-operators
decreases-part-operators l = vec_len l.operators
