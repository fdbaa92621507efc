use Rattle.std.proofs.Common.{◌≡◌, ◌++◌, ◌≤◌}
use Rattle.wt_ast.specs.declared.tree.Conditions.{size-Conditions}
use Rattle.wt_ast.specs.declared.tree.FromPart.{size-FromPart}
use Rattle.wt_ast.specs.Tree.{conditions_tree, from_tree}
use Rattle.wt_ast.specs.Private.{from_back}
use Rattle.wt_ast.specs.Marks as spec
use Rattle.wt_ast.proofs.marks.+marks.Given as goal

abbrev pub invariant-add_conditions-parts : goal.invariant-add_conditions-parts
invariant-add_conditions-parts l = record {
  smaller : size-Conditions l.rest ≤ size-Conditions l.fn.parts;
  marks : l.out.items ++ spec.marks_in_conds l.below (conditions_tree l.rest) ≡ l.fn.out.items ++ spec.marks_in_conds l.below (conditions_tree l.fn.parts);
}

abbrev pub invariant-add_from-joins : goal.invariant-add_from-joins
invariant-add_from-joins l = record {
  smaller : size-FromPart l.part ≤ size-FromPart l.fn.from;
  same : l.out.items ≡ l.fn.out.items;
  marks : spec.marks_in_from (from_tree l.part) ++ from_back l.behind.items ≡ spec.marks_in_from (from_tree l.fn.from);
}
