use Rattle.std.proofs.Common.{◌≡◌, ◌≤◌}
use Rattle.wt_ast.specs.declared.tree.Conditions.{size-Conditions}
use Rattle.wt_pred.proofs.Lists.{before}
use Rattle.wt_ast.specs.Tree.{conditions_tree}
use Rattle.wt_query_plan.specs.Building as spec
use Rattle.wt_query_plan.specs.Faults as faults
use Rattle.wt_resolve.specs.Scoping.{outside, inside}
use Rattle.wt_resolve.proofs.conditions.+predicate.Given as goal

abbrev pub invariant-predicates-parts : goal.invariant-predicates-parts
invariant-predicates-parts l = record {
  smaller : size-Conditions l.rest ≤ size-Conditions l.fn.parts;
  fault_left : faults.tests_fault (outside l.scope) (inside l.scope) l.scope.kinds.now (conditions_tree l.rest) ≡ faults.tests_fault (outside l.scope) (inside l.scope) l.scope.kinds.now (conditions_tree l.fn.parts);
  built_so_far : before l.built.items (spec.preds_of (inside l.scope) (conditions_tree l.rest)) ≡ spec.preds_of (inside l.scope) (conditions_tree l.fn.parts);
}
