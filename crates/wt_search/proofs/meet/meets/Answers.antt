use Rattle.std.proofs.Common.{rules, refl, map, arith}
use Rattle.wt_bag.specs.Choices.{At}
use Rattle.wt_form.specs.Congruent.{Congruent}
use Rattle.wt_form.specs.Views.{form_seen}
use Rattle.wt_facts.specs.Facts.{known_of}
use Rattle.wt_congruent.proofs.Pairing.{at_put, at_get, at_within, one_more}
use Rattle.wt_search.proofs.Meeting.{size_differs}
use Rattle.wt_search.proofs.meet.meets.Goals as goal
use Rattle.wt_search.proofs.meet.meets.Goals.{else-sizes-j-via-then-sizes-j+in_ok-congruent_with+else-branch, else-sizes-j-via-else-sizes-j}

pub returns-then-branch : goal.returns-then-branch
returns-then-branch c = (
  λ u. (c.loop-j.j, at_put (Congruent (known_of c.args.facts.now) (form_seen c.args.form.now)) form_seen c.args.others.now c.loop-j.j c.index-others-j.result (omega arith) c.index-others-j.is (c.in_ok-congruent_with.ensures.0 c.if-branch.true)),
  λ u. refl,
)

pub loop-j-preserved : goal.loop-j-preserved
loop-j-preserved c =
    one_more (λ i. At (Congruent (known_of c.args.facts.now) (form_seen c.args.form.now)) i (map form_seen c.args.others.now)) c.loop-j.j c.loop-j.invariant
    (elim c.else-sizes-j.branch [
      | else-sizes-j-via-then-sizes-j+in_ok-congruent_with+else-branch w ↦ λ h. search (rules, w.if-branch.false, w.in_ok-congruent_with.ensures.1 (at_get (Congruent (known_of c.args.facts.now) (form_seen c.args.form.now)) form_seen c.args.others.now c.loop-j.j w.index-others-j.result w.index-others-j.is h))
      | else-sizes-j-via-else-sizes-j w ↦ λ h. size_differs (known_of c.args.facts.now) c.args.form.now c.args.others.now c.args.sizes.now c.loop-j.j c.size-size.result c.requires.sizes c.size-size.ensures w.if-sizes-j.false h
    ])

pub returns : goal.returns
returns c = (
  λ u. cc,
  λ m. let l = at_within (Congruent (known_of c.args.facts.now) (form_seen c.args.form.now)) form_seen c.args.others.now m.0 m.1 in absurd (c.loop-j.invariant m.0 (omega (arith, l)) m.1),
)
