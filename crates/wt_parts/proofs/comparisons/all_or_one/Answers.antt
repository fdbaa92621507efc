use Rattle.std.proofs.Common.{◌≡◌, IfOk, rules, subst}
use Rattle.wt_ast.specs.Tree.{all_of, CondTree, condition_tree}
use Rattle.wt_parts.proofs.Views.{one}
use Rattle.wt_parts.proofs.comparisons.all_or_one.Goals as goal

pub returns : goal.returns
returns c =
    let P : CondTree → Type 0 = λ t. IfOk c.and_of.result (λ x. condition_tree x ≡ t) in
    subst P (one all_of c.args.first c.args.more.items c.insert.new.self.items (search rules) c.in_ok-insert.ensures.items) c.and_of.ensures
