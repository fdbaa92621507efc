use Rattle.std.proofs.Common.{rules, ◌≡◌, IfOk, subst}
use Rattle.wt_ast.specs.Tree.{CondTree, condition_tree}
use Rattle.wt_tree_parts.proofs.Views.{together_many}
use Rattle.wt_tree_parts.proofs.condition.together.Goals as goal

pub returns-then-len-ne1 : goal.returns-then-len-ne1
returns-then-len-ne1 c =
    let P : CondTree → Type 0 = λ t. IfOk c.and_of.result (λ x. condition_tree x ≡ t) in
    subst P (together_many c.args.conditions.items (search rules)) c.and_of.ensures
