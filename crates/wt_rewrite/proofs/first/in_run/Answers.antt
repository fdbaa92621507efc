use Rattle.std.proofs.Common.{◌≡◌, ◌<◌, length, refl, ap, subst, arith}
use Rattle.std.specs.Prelude.{slice_get, Some}
use Rattle.wt_symbol.specs.Sides.{pair_of}
use Rattle.wt_plan.specs.Tree.{plan_tree}
use Rattle.wt_matching.specs.Finding.{just}
use Rattle.wt_found.specs.Seen.{seen}
use Rattle.wt_match.specs.Matched.{GivesAt}
use Rattle.wt_rewrite.specs.Search.{IsHit}
use Rattle.wt_rewrite.proofs.Listing.{get_at}
use Rattle.wt_rewrite.proofs.Searching.{none_rule}
use Rattle.wt_rewrite.proofs.Running.{none_next, none_until, walked_same}
use Rattle.wt_rewrite.proofs.first.in_run.Goals as goal

pub applied-requires-clause-walked : goal.applied-requires-clause-walked
applied-requires-clause-walked g c =
    let rules = c.args.book.now.rules in
    let rule = c.index-rules-number.result in
    let same : length c.as_slice-rules.result.now ≡ length rules = ap length c.as_slice-rules.ensures in
    let lt : c.loop-number.number < length c.as_slice-rules.result.now = omega (arith, same, c.loop-number-test.true, c.requires.run.within) in
    let get : slice_get rules c.loop-number.number ≡ Some rule = get_at rules c.as_slice-rules.result.now c.loop-number.number rule c.as_slice-rules.ensures lt c.index-rules-number.is in
    walked_same (g.F.Facts.tables c.args.facts.now) rules (plan_tree c.args.plan.now) c.args.node c.args.run.start c.args.run.end (just (seen c.args.found.now)) c.requires.walked c.requires.run c.loop-number.number rule c.loop-number.invariant.0 c.loop-number-test.true get

pub returns-in-Some-clause-some : goal.returns-in-Some-clause-some
returns-in-Some-clause-some g c =
    let S = g.F.Facts.tables c.args.facts.now in
    let rules = c.args.book.now.rules in
    let plan = plan_tree c.args.plan.now in
    let rule = c.index-rules-number.result in
    let same : length c.as_slice-rules.result.now ≡ length rules = ap length c.as_slice-rules.ensures in
    let lt : c.loop-number.number < length c.as_slice-rules.result.now = omega (arith, same, c.loop-number-test.true, c.requires.run.within) in
    let get : slice_get rules c.loop-number.number ≡ Some rule = get_at rules c.as_slice-rules.result.now c.loop-number.number rule c.as_slice-rules.ensures lt c.index-rules-number.is in
    let found = subst (λ o. GivesAt S (pair_of rule.pair) rule.set plan c.args.node o) c.in-Some.is c.in_ok-plan.ensures.exact in
    let hit : IsHit S rules plan (record { node = c.args.node; rule = c.loop-number.number; plan = c.in-Some.plan }) =
    record { found = found.0; is = record { rule = rule; at = get; node = c.requires.within; matches = found.1 }; made = found.2 } in
    record { hit = hit; here = refl; earlier = c.loop-number.invariant.1.none }

pub loop-number-preserved : goal.loop-number-preserved
loop-number-preserved g c =
    let S = g.F.Facts.tables c.args.facts.now in
    let rules = c.args.book.now.rules in
    let plan = plan_tree c.args.plan.now in
    let rule = c.index-rules-number.result in
    let same : length c.as_slice-rules.result.now ≡ length rules = ap length c.as_slice-rules.ensures in
    let lt : c.loop-number.number < length c.as_slice-rules.result.now = omega (arith, same, c.loop-number-test.true, c.requires.run.within) in
    let get : slice_get rules c.loop-number.number ≡ Some rule = get_at rules c.as_slice-rules.result.now c.loop-number.number rule c.as_slice-rules.ensures lt c.index-rules-number.is in
    let none = subst (λ o. GivesAt S (pair_of rule.pair) rule.set plan c.args.node o) c.in-None.is c.in_ok-plan.ensures.exact in
    (omega (arith, c.loop-number.invariant.0), none_next S rules plan c.args.node c.args.run.start c.loop-number.number c.loop-number.invariant.1 (none_rule S rules plan c.args.node c.loop-number.number rule get none))

pub returns-clause-none : goal.returns-clause-none
returns-clause-none g c =
    none_until (g.F.Facts.tables c.args.facts.now) c.args.book.now.rules (plan_tree c.args.plan.now) c.args.node c.args.run.start c.loop-number.number c.args.run.end c.loop-number-test.false c.loop-number.invariant.1
