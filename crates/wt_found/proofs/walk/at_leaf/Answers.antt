use Rattle.std.proofs.Common.{rules, ◌≡◌, ◌∙◌, [], ◌∷◌}
use Rattle.wt_plan.specs.Tree.{plan_tree}
use Rattle.wt_plan.specs.Measures.{width}
use Rattle.wt_plan.proofs.Narrowness.{narrow_width}
use Rattle.wt_found.specs.Seen.{plans_behind}
use Rattle.wt_found.proofs.Reading.{leaf_seen, small_min}
use Rattle.wt_found.proofs.walk.at_leaf.Goals as goal

pub returns : goal.returns
returns c =
    let p = plan_tree c.args.plan.now in
    let w : c.width.result ≡ width p = c.width.ensures.exact ∙ small_min (width p) (narrow_width p c.requires) in
    let leaves : plans_behind c.push.new.self.items ≡ p ∷ [] = search rules in
    leaf_seen (record { columns = c.in_ok-columns.columns; leaves = c.push.new.self; lists = c.new.result; preds = c.new-2.result }) c.args.leaf p c.width.result c.in_ok-columns.ensures w leaves (search rules) (search rules)
