use Rattle.std.proofs.Common.{◌≡◌, sym, ap, ◌∙◌, subst}
use Rattle.wt_symbol.specs.Sides.{pair_of}
use Rattle.wt_plan.specs.Tree.{plan_tree}
use Rattle.wt_plan.specs.WellFormed.{Narrow}
use Rattle.wt_matching.specs.Finding.{found, nothing, just}
use Rattle.wt_found.specs.Seen.{seen, seen_or_not}
use Rattle.wt_matching.proofs.Subplans.{narrow_at}
use Rattle.wt_match.proofs.Deciding.{none_found}
use Rattle.wt_match.proofs.applying.match_at.Goals as goal

pub find-requires : goal.find-requires
find-requires g c = record { narrow = subst Narrow (sym c.plan_at-subplan.ensures) (narrow_at (plan_tree c.args.plan.now) c.args.node c.requires.narrow) }

pub applied-requires-clause-walked : goal.applied-requires-clause-walked
applied-requires-clause-walked g c =
    let p = pair_of c.args.rule.now.pair in
    let here : just (seen c.in-Some.found) ≡ found p.source p.anchors (plan_tree c.plan_at-subplan.result.now) = ap seen_or_not (sym c.in-Some.is) ∙ c.in_ok-found.ensures.exact in
    ap (found p.source p.anchors) (sym c.plan_at-subplan.ensures) ∙ sym here

pub returns-in-None : goal.returns-in-None
returns-in-None g c =
    let p = pair_of c.args.rule.now.pair in
    let plan = plan_tree c.args.plan.now in
    let here : nothing ≡ found p.source p.anchors (plan_tree c.plan_at-subplan.result.now) = ap seen_or_not (sym c.in-None.is) ∙ c.in_ok-found.ensures.exact in
    record { exact = none_found (g.F.Facts.tables c.args.facts.now) p c.args.rule.now.set c.requires.lawful plan c.args.node (here ∙ ap (found p.source p.anchors) c.plan_at-subplan.ensures) }
