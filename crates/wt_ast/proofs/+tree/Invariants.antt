use Rattle.std.proofs.Common.{◌≤◌}
use Rattle.wt_ast.specs.declared.tree.Conditions.{size-Conditions}
use Rattle.wt_ast.specs.declared.tree.FromPart.{size-FromPart}
use Rattle.wt_ast.proofs.+tree.Given as goal

abbrev pub decreases-tree::Conditions::drop : goal.decreases-tree::Conditions::drop
decreases-tree::Conditions::drop l = goal.size-tree::Conditions::drop l

abbrev pub decreases-tree::FromPart::drop : goal.decreases-tree::FromPart::drop
decreases-tree::FromPart::drop l = goal.size-tree::FromPart::drop l

abbrev pub invariant-tree::Conditions::drop-loop-self : goal.invariant-tree::Conditions::drop-loop-self
invariant-tree::Conditions::drop-loop-self l = size-Conditions l.self ≤ size-Conditions l.fn.self

abbrev pub invariant-tree::FromPart::drop-loop-self : goal.invariant-tree::FromPart::drop-loop-self
invariant-tree::FromPart::drop-loop-self l = size-FromPart l.self ≤ size-FromPart l.fn.self
