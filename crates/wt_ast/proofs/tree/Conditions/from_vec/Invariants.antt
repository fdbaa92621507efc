use Rattle.std.proofs.Common.{◌≡◌, vec_len}
use Rattle.wt_ast.specs.Tree.{conditions_tree, condition_trees}
use Rattle.wt_ast.proofs.Lists.{before}
use Rattle.wt_ast.proofs.tree.Conditions.from_vec.Given as goal

abbrev pub invariant-parts : goal.invariant-parts
invariant-parts l = before l.parts.items (conditions_tree l.list) ≡ condition_trees l.fn.parts.items

abbrev pub decreases-parts : goal.decreases-parts
decreases-parts l = vec_len l.parts
