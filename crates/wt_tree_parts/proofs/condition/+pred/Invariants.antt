use Rattle.std.proofs.Common.{◌≡◌, ◌≤◌}
use Rattle.wt_pred.specs.declared.tree.Preds.{size-Preds}
use Rattle.wt_pred.specs.Tree.{preds_tree}
use Rattle.wt_ast.proofs.Lists.{before}
use Rattle.wt_blocks.specs.Printed.{test_trees}
use Rattle.wt_tree_parts.specs.Leaves.{scope_of_leaves}
use Rattle.wt_tree_parts.proofs.condition.+pred.Given as goal

abbrev pub decreases-test : goal.decreases-test
decreases-test l = goal.size-test l

abbrev pub decreases-tests : goal.decreases-tests
decreases-tests l = goal.size-tests l

abbrev pub invariant-tests-parts : goal.invariant-tests-parts
invariant-tests-parts l = record {
  smaller : size-Preds l.rest ≤ size-Preds l.fn.parts;
  built_so_far : before l.built.items (test_trees (scope_of_leaves l.sight.schema.now.tables l.sight.leaves.now) l.cols (preds_tree l.rest)) ≡ test_trees (scope_of_leaves l.sight.schema.now.tables l.sight.leaves.now) l.cols (preds_tree l.fn.parts);
}
