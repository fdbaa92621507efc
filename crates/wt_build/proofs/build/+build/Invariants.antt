use Rattle.std.proofs.Common.{◌≡◌, ◌≤◌, ◌+◌, ◌*◌, ◌++◌, max}
use Rattle.wt_ast.specs.declared.tree.Query.{size-Query}
use Rattle.wt_ast.specs.declared.tree.FromPart.{size-FromPart}
use Rattle.wt_ast.specs.declared.tree.Condition.{size-Condition}
use Rattle.wt_ast.specs.declared.tree.Conditions.{size-Conditions}
use Rattle.wt_ast.specs.Tree.{from_tree, conditions_tree}
use Rattle.wt_query_rows.specs.Scopes.{scope_of}
use Rattle.wt_query_plan.specs.Building as spec
use Rattle.wt_query_plan.specs.Faults as faults
use Rattle.wt_resolve.specs.Scoping.{outside, inside}
use Rattle.wt_conjunct.specs.Views.{conjunct_trees}
use Rattle.wt_query_bounds.specs.Bounds.{items_in_conds}
use Rattle.wt_build.proofs.build.+build.Given as goal

abbrev pub decreases-built_query : goal.decreases-built_query
decreases-built_query l = 5 * size-Query l.q.now + 4

abbrev pub decreases-planned : goal.decreases-planned
decreases-planned l = 5 * size-Query l.q.now + 3

abbrev pub decreases-gather : goal.decreases-gather
decreases-gather l = 5 * size-FromPart l.from.now

abbrev pub decreases-gather_two : goal.decreases-gather_two
decreases-gather_two l = 5 * max (size-FromPart l.left.now) (size-FromPart l.right.now) + 1

abbrev pub decreases-listed : goal.decreases-listed
decreases-listed l = 5 * size-FromPart l.from.now

abbrev pub decreases-operand : goal.decreases-operand
decreases-operand l = 5 * size-FromPart l.from.now + 1

abbrev pub decreases-operands : goal.decreases-operands
decreases-operands l = 5 * max (size-FromPart l.left.now) (size-FromPart l.right.now) + 2

abbrev pub decreases-parts : goal.decreases-parts
decreases-parts l = 5 * max (size-FromPart l.left.now) (size-FromPart l.right.now) + 2

abbrev pub decreases-joined : goal.decreases-joined
decreases-joined l = 5 * max (max (size-FromPart l.left.now) (size-FromPart l.right.now)) (size-Condition l.on.now) + 3

abbrev pub decreases-kept : goal.decreases-kept
decreases-kept l = 5 * size-Query l.q.now + 2

abbrev pub decreases-resolved : goal.decreases-resolved
decreases-resolved l = 5 * size-Condition l.c.now + 1

abbrev pub decreases-push_conjuncts : goal.decreases-push_conjuncts
decreases-push_conjuncts l = 5 * size-Condition l.c.now

abbrev pub decreases-push_each : goal.decreases-push_each
decreases-push_each l = 5 * size-Conditions l.parts.now

abbrev pub invariant-push_each-parts : goal.invariant-push_each-parts
invariant-push_each-parts l = record {
  smaller : size-Conditions l.rest ≤ size-Conditions l.fn.parts;
  small : items_in_conds (conditions_tree l.rest) ≤ 256;
  fault : faults.conds_fault l.scope.schema.now.tables (outside l.scope) (scope_of l.scope.schema.now.tables (from_tree l.block)) (inside l.scope) l.scope.kinds.now (conditions_tree l.rest)
      ≡ faults.conds_fault l.scope.schema.now.tables (outside l.scope) (scope_of l.scope.schema.now.tables (from_tree l.block)) (inside l.scope) l.scope.kinds.now (conditions_tree l.fn.parts);
  so_far : conjunct_trees l.out.items ++ spec.all_conjuncts l.scope.schema.now.tables (inside l.scope) (conditions_tree l.rest)
      ≡ conjunct_trees l.fn.out.items ++ spec.all_conjuncts l.scope.schema.now.tables (inside l.scope) (conditions_tree l.fn.parts);
}
