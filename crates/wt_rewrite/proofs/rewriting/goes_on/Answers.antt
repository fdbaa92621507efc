use Rattle.std.proofs.Common.{arith}
use Rattle.wt_plan.specs.Tree.{plan_tree}
use Rattle.wt_rewrite.specs.Search.{IsFirstHit}
use Rattle.wt_rewrite.proofs.Choosing.{some_case}
use Rattle.wt_rewrite.proofs.NodeLaws.{few_nodes}
use Rattle.wt_rewrite.proofs.Going.{hit_fits, gone}
use Rattle.wt_rewrite.proofs.rewriting.goes_on.Goals as goal

pub first-requires-clause-few : goal.first-requires-clause-few
first-requires-clause-few g c = omega (arith, few_nodes (plan_tree c.args.so_far.now.plan), c.requires.regular.well_formed.cheap)

pub into_placed-requires-clause-fits : goal.into_placed-requires-clause-fits
into_placed-requires-clause-fits g c =
    let S = g.F.Facts.tables c.args.facts.now in
    let plan = plan_tree c.args.so_far.now.plan in
    let first = some_case (IsFirstHit S c.args.book.now.rules plan) c.in_ok-hit.field-0 c.in-Some.hit c.in-Some.is c.in_ok-hit.ensures.some in
    hit_fits S c.args.book.now.rules plan c.in-Some.hit first

pub returns-in_ok-so_far-in-Some-clause-goes : goal.returns-in_ok-so_far-in-Some-clause-goes
returns-in_ok-so_far-in-Some-clause-goes g c = λ _.
    let S = g.F.Facts.tables c.args.facts.now in
    let plan = plan_tree c.args.so_far.now.plan in
    let first = some_case (IsFirstHit S c.args.book.now.rules plan) c.in_ok-hit.field-0 c.in-Some.hit c.in-Some.is c.in_ok-hit.ensures.some in
    gone S c.args.book.now.rules c.args.so_far.now _ c.in-Some.hit first c.in_ok-so_far-in-Some.ensures.placed c.in_ok-push-in-Some.ensures.items
