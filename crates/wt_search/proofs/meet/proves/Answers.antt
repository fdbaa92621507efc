use Rattle.std.proofs.Common.{map, ap, subst, sym}
use Rattle.std.proofs.lemmas.Bool.{false≢true}
use Rattle.wt_bag.specs.Choices.{Has}
use Rattle.wt_form.specs.Views.{form_seen}
use Rattle.wt_facts.specs.Facts.{known_of}
use Rattle.wt_search.proofs.Meeting.{proved_is}
use Rattle.wt_search.proofs.PieceLaws.{unprovable}
use Rattle.wt_search.proofs.meet.proves.Goals as goal

pub returns-then-cannot_meet : goal.returns-then-cannot_meet
returns-then-cannot_meet c =
    let told = c.cannot_meet.ensures c.if-cannot_meet.true in (
      λ y. absurd (false≢true y),
      λ r. absurd (unprovable (known_of c.args.facts.now) c.args.steps (form_seen c.args.source.now) (form_seen c.args.dest.now) (map form_seen c.in_ok-from_dest.from_dest.items) (λ h ch. (c.in_ok-from_dest.ensures.exact h).1 ch) told.0
          (λ h m e. told.1 h (subst (λ fs. Has h (map form_seen fs)) (sym c.as_slice.ensures.value) m) e) r),
    )

pub returns : goal.returns
returns c =
    proved_is (known_of c.args.facts.now) c.args.steps (form_seen c.args.source.now) (form_seen c.args.dest.now) c.in_ok-proved.proved (map form_seen c.in_ok-from_source.from_source.items) (map form_seen c.in_ok-from_dest.from_dest.items) _ _ (ap (map form_seen) c.as_slice-2.ensures.value) (ap (map form_seen) c.as_slice-3.ensures.value)
    c.in_ok-from_source.ensures.exact c.in_ok-from_dest.ensures.exact c.in_ok-proved.ensures
