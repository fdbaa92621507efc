use Rattle.std.proofs.Common.{◌≡◌, ◌++◌, vec_len}
use Rattle.wt_ast.specs.Private.{from_back}
use Rattle.wt_ast.proofs.marks.append_back.Given as goal

abbrev pub invariant-lists : goal.invariant-lists
invariant-lists l = l.out.items ++ from_back l.behind.items ≡ l.fn.out.items ++ from_back l.fn.behind.items

abbrev pub decreases-lists : goal.decreases-lists
decreases-lists l = vec_len l.behind
