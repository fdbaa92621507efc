use Rattle.std.proofs.Common.{◌≡◌, ◌+◌, ◌-◌, ◌^◌, ◌≤◌, min, length}
use Rattle.wt_ast.specs.declared.tree.Conditions.{size-Conditions}
use Rattle.wt_ast.specs.Tree.{conditions_tree}
use Rattle.wt_ast.specs.Conjuncts.{conjuncts_of}
use Rattle.wt_ast.proofs.+conjuncts.Given as goal

abbrev pub decreases-condition::conjuncts_of : goal.decreases-condition::conjuncts_of
decreases-condition::conjuncts_of l = goal.size-condition::conjuncts_of l

abbrev pub decreases-tree::Condition::conjuncts : goal.decreases-tree::Condition::conjuncts
decreases-tree::Condition::conjuncts l = goal.size-tree::Condition::conjuncts l

abbrev pub invariant-condition::conjuncts_of-parts : goal.invariant-condition::conjuncts_of-parts
invariant-condition::conjuncts_of-parts l = record {
  within : l.count ≤ 2 ^ 32 - 1;
  smaller : size-Conditions l.rest ≤ size-Conditions l.fn.parts;
  count : min (2 ^ 32 - 1) (l.count + length (conjuncts_of (conditions_tree l.rest))) ≡ min (2 ^ 32 - 1) (length (conjuncts_of (conditions_tree l.fn.parts)));
}
