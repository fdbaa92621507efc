use Rattle.std.proofs.Common.{rules, map, ◌≡◌, sym, subst, ◌∙◌, refl, true}
use Rattle.wt_form.specs.Views.{terms_seen}
use Rattle.wt_facts.specs.Facts.{known_of}
use Rattle.wt_congruent.specs.Refs.{cond_behind, range_behind}
use Rattle.wt_congruent.proofs.Pairing.{at_within}
use Rattle.wt_places.proofs.GainedLaws.{gained_none}
use Rattle.wt_joining.specs.ToOne.{StandTogether, MergedBy}
use Rattle.wt_joining.proofs.Lists.{on_ok}
use Rattle.wt_joining.proofs.OneLaws.{gained_merged}
use Rattle.wt_joining.proofs.to_one.push_one.Goals as goal

pub returns-then-not-are_one : goal.returns-then-not-are_one
returns-then-not-are_one c =
    gained_none (map terms_seen c.args.out.now.items) _ (MergedBy (known_of c.args.facts.now) (map range_behind c.args.ranges.now) (map cond_behind c.args.refs.now) c.args.term.now.pieces c.args.x c.args.b c.args.y c.args.c) refl
    (λ us p. absurd (search (rules, c.if-not-are_one.true, c.are_one.ensures.1 (p.0, p.1, subst (λ z. StandTogether (known_of c.args.facts.now) z c.args.x c.args.y c.args.b) c.requires p.2))))

pub without-requires : goal.without-requires
without-requires c =
    let yes : c.are_one.result ≡ true = search (rules, c.if-not-are_one.false) in
    let h = c.are_one.ensures.0 yes in
    let stand = subst (λ z. StandTogether (known_of c.args.facts.now) z c.args.x c.args.y c.args.b) (sym c.requires) h.2 in
    at_within _ range_behind c.args.ranges.now c.args.y stand.3

pub returns : goal.returns
returns c =
    let yes : c.are_one.result ≡ true = search (rules, c.if-not-are_one.false) in
    let h = c.are_one.ensures.0 yes in
    on_ok c.push_onto.result _ _
    (λ n. gained_merged (known_of c.args.facts.now) range_behind c.args.ranges.now c.as_slice.result.now (map cond_behind c.args.refs.now) c.args.term.now.pieces c.args.x c.args.b c.args.y c.args.c (map terms_seen c.args.out.now.items) _ n (c.as_slice.ensures.value ∙ c.in_ok-left.ensures)
    (h.0, h.1, subst (λ z. StandTogether (known_of c.args.facts.now) z c.args.x c.args.y c.args.b) (sym c.requires) h.2)) c.push_onto.ensures
