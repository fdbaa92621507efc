use Rattle.std.proofs.Common.{◌≡◌, ◌++◌, ◌≤◌}
use Rattle.wt_ast.specs.declared.tree.Conditions.{size-Conditions}
use Rattle.wt_ast.specs.Tree.{conditions_tree}
use Rattle.wt_query_plan.specs.Faults.{all_places}
use Rattle.wt_joins.proofs.starts.+offsets.Given as goal

abbrev pub invariant-push_each-parts : goal.invariant-push_each-parts
invariant-push_each-parts l = record {
  smaller : size-Conditions l.rest ≤ size-Conditions l.fn.parts;
  offsets : l.out.items ++ all_places (conditions_tree l.rest) ≡ l.fn.out.items ++ all_places (conditions_tree l.fn.parts);
}
