use Rattle.std.proofs.Common.{◌∙◌, ◌+◌, ◌-◌, ◌^◌, ap, sym, arith, min, length}
use Rattle.wt_ast.specs.Tree.{conditions_tree}
use Rattle.wt_ast.specs.Conjuncts.{conjuncts_of}
use Rattle.wt_ast.proofs.+conjuncts.Goals as goal

pub condition::conjuncts_of-returns-in-Empty : goal.condition::conjuncts_of-returns-in-Empty
condition::conjuncts_of-returns-in-Empty t c =
    let rest = ap (λ r. min (2 ^ 32 - 1) (c.parts.count + length (conjuncts_of (conditions_tree r)))) c.in-Empty.is in
    omega (arith, sym rest ∙ c.parts.invariant.count)
