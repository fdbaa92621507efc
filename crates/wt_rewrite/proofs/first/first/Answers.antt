use Rattle.wt_plan.specs.Tree.{plan_tree}
use Rattle.wt_rewrite.specs.Search.{IsFirstIn}
use Rattle.wt_rewrite.proofs.NodeLaws.{some_node}
use Rattle.wt_rewrite.proofs.Searching.{first_of_all}
use Rattle.wt_rewrite.proofs.Choosing.{ok_some_then}
use Rattle.wt_rewrite.proofs.first.first.Goals as goal

pub first_in-requires-clause-within : goal.first_in-requires-clause-within
first_in-requires-clause-within g c = some_node (plan_tree c.args.plan.now)

pub returns-clause-some : goal.returns-clause-some
returns-clause-some g c =
    ok_some_then (IsFirstIn (g.F.Facts.tables c.args.facts.now) c.args.book.now.rules (plan_tree c.args.plan.now) 0) _ c.first_in.result c.first_in.ensures.some
    (λ h f. first_of_all (g.F.Facts.tables c.args.facts.now) c.args.book.now.rules (plan_tree c.args.plan.now) h f)
