use Rattle.std.proofs.Common.{◌≡◌, ◌≤◌, ◌+◌, ◌*◌, ◌++◌, max, vec_len}
use Rattle.wt_ast.specs.declared.tree.Query.{size-Query}
use Rattle.wt_ast.specs.declared.tree.FromPart.{size-FromPart}
use Rattle.wt_ast.specs.declared.tree.Condition.{size-Condition}
use Rattle.wt_ast.specs.declared.tree.Conditions.{size-Conditions}
use Rattle.wt_ast.specs.Tree.{conditions_tree, from_tree}
use Rattle.wt_print.specs.Links.{links_text, LinksFit, AreWithin}
use Rattle.wt_spelling.specs.Numbers.{FitsConds, FitsFrom}
use Rattle.wt_spelling.specs.Spelling as spec
use Rattle.wt_print.proofs.queries.+print.Given as goal

abbrev pub decreases-add_query : goal.decreases-add_query
decreases-add_query l = 5 * size-Query l.query.now

abbrev pub decreases-add_from : goal.decreases-add_from
decreases-add_from l = 5 * size-FromPart l.from.now + 2

abbrev pub decreases-add_link : goal.decreases-add_link
decreases-add_link l = 5 * size-FromPart l.part.now + 1

abbrev pub decreases-add_join : goal.decreases-add_join
decreases-add_join l = 5 * max (size-FromPart l.right.now) (size-Condition l.on.now) + 4

abbrev pub decreases-add_operand : goal.decreases-add_operand
decreases-add_operand l = 5 * size-FromPart l.part.now + 3

abbrev pub decreases-add_where : goal.decreases-add_where
decreases-add_where l = 5 * size-Condition l.c.now + 2

abbrev pub decreases-add_whole : goal.decreases-add_whole
decreases-add_whole l = 5 * size-Condition l.c.now + 1

abbrev pub decreases-add_part : goal.decreases-add_part
decreases-add_part l = 5 * size-Condition l.c.now + 1

abbrev pub decreases-add_condition : goal.decreases-add_condition
decreases-add_condition l = 5 * size-Condition l.c.now

abbrev pub decreases-add_in_query : goal.decreases-add_in_query
decreases-add_in_query l = 5 * size-Query l.query.now + 1

abbrev pub decreases-add_parts : goal.decreases-add_parts
decreases-add_parts l = 5 * size-Conditions l.parts.now + 1

abbrev pub decreases-add_more : goal.decreases-add_more
decreases-add_more l = 5 * size-Conditions l.parts.now + 1

abbrev pub invariant-add_more-parts : goal.invariant-add_more-parts
invariant-add_more-parts l = record {
  smaller : size-Conditions l.rest ≤ size-Conditions l.fn.parts;
  text : l.out.items ++ spec.more_text l.conjuncts l.word (conditions_tree l.rest) ≡ l.fn.out.items ++ spec.more_text l.conjuncts l.word (conditions_tree l.fn.parts);
  fits : FitsConds (conditions_tree l.rest) → FitsConds (conditions_tree l.fn.parts);
}

abbrev pub invariant-add_from-parts : goal.invariant-add_from-parts
invariant-add_from-parts l = record {
  within : AreWithin (size-FromPart l.fn.from) l.parts.items;
  text : l.out.items ++ links_text l.parts.items ≡ l.fn.out.items ++ spec.from_text (from_tree l.fn.from);
  fits : LinksFit l.parts.items → FitsFrom (from_tree l.fn.from);
}

abbrev pub decreases-add_from-parts : goal.decreases-add_from-parts
decreases-add_from-parts l = vec_len l.parts
