use Rattle.std.proofs.Common.{◌≡◌, ◌<◌, length, sym, ap, ◌∙◌, subst, arith}
use Rattle.std.specs.Prelude.{slice_get, Some}
use Rattle.wt_symbol.specs.Sides.{tree_of}
use Rattle.wt_rule.specs.declared.Rule.{Rule}
use Rattle.wt_plan.specs.Tree.{plan_tree}
use Rattle.wt_plan.specs.WellFormed.{Narrow}
use Rattle.wt_matching.specs.Nodes.{at}
use Rattle.wt_matching.specs.Finding.{found, nothing, just}
use Rattle.wt_found.specs.Seen.{seen, seen_or_not}
use Rattle.wt_matching.proofs.Subplans.{narrow_at}
use Rattle.wt_rewrite.proofs.Listing.{get_at}
use Rattle.wt_rewrite.proofs.Running.{same_some, none_walked}
use Rattle.wt_rewrite.proofs.first.at_run.Goals as goal

pub find-requires : goal.find-requires
find-requires g c = record { narrow = subst Narrow (sym c.requires.there) (narrow_at (plan_tree c.args.plan.now) c.args.node c.requires.narrow) }

pub in_run-requires-clause-walked : goal.in_run-requires-clause-walked
in_run-requires-clause-walked g c = λ r e.
    let rules = c.args.book.now.rules in
    let first = c.index-as_slice-run.result in
    let same_length = ap length c.as_slice.ensures in
    let lt : c.args.run.start < length c.as_slice.result.now = omega (arith, c.requires.run.after, c.requires.run.within, same_length) in
    let get : slice_get rules c.args.run.start ≡ Some first = get_at rules c.as_slice.result.now c.args.run.start first c.as_slice.ensures lt c.index-as_slice-run.is in
    let here : just (seen c.in-Some.found) ≡ found (tree_of first.pair.source) first.pair.anchors (plan_tree c.args.subplan.now) = ap seen_or_not (sym c.in-Some.is) ∙ c.in_ok-found.ensures.exact in
    let walked : found (tree_of first.pair.source) first.pair.anchors (at (plan_tree c.args.plan.now) c.args.node) ≡ just (seen c.in-Some.found) = ap (found (tree_of first.pair.source) first.pair.anchors) (sym c.requires.there) ∙ sym here in
    subst (λ (z : Rule). found (tree_of z.pair.source) z.pair.anchors (at (plan_tree c.args.plan.now) c.args.node) ≡ just (seen c.in-Some.found)) (same_some first r (sym get ∙ e)) walked

pub returns-in-None-clause-none : goal.returns-in-None-clause-none
returns-in-None-clause-none g c =
    let rules = c.args.book.now.rules in
    let first = c.index-as_slice-run.result in
    let same_length = ap length c.as_slice.ensures in
    let lt : c.args.run.start < length c.as_slice.result.now = omega (arith, c.requires.run.after, c.requires.run.within, same_length) in
    let get : slice_get rules c.args.run.start ≡ Some first = get_at rules c.as_slice.result.now c.args.run.start first c.as_slice.ensures lt c.index-as_slice-run.is in
    let here : nothing ≡ found (tree_of first.pair.source) first.pair.anchors (plan_tree c.args.subplan.now) = ap seen_or_not (sym c.in-None.is) ∙ c.in_ok-found.ensures.exact in
    let walked : found (tree_of first.pair.source) first.pair.anchors (at (plan_tree c.args.plan.now) c.args.node) ≡ nothing = ap (found (tree_of first.pair.source) first.pair.anchors) (sym c.requires.there) ∙ sym here in
    none_walked (g.F.Facts.tables c.args.facts.now) rules (plan_tree c.args.plan.now) c.args.node c.requires.ready.lawful c.args.run.start c.args.run.end
    (λ r e. subst (λ (z : Rule). found (tree_of z.pair.source) z.pair.anchors (at (plan_tree c.args.plan.now) c.args.node) ≡ nothing) (same_some first r (sym get ∙ e)) walked) c.requires.run
