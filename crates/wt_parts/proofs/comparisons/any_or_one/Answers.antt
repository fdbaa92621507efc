use Rattle.std.proofs.Common.{◌≡◌, IfOk, rules, subst}
use Rattle.wt_ast.specs.Tree.{any_of, CondTree, condition_tree}
use Rattle.wt_parts.proofs.Views.{one}
use Rattle.wt_parts.proofs.comparisons.any_or_one.Goals as goal

pub returns : goal.returns
returns c =
    let P : CondTree → Type 0 = λ t. IfOk c.or_of.result (λ x. condition_tree x ≡ t) in
    subst P (one any_of c.args.first c.args.more.items c.insert.new.self.items (search rules) c.in_ok-insert.ensures.items) c.or_of.ensures
