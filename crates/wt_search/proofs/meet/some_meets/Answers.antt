use Rattle.std.proofs.Common.{rules, refl, map, arith}
use Rattle.wt_bag.specs.Choices.{At}
use Rattle.wt_form.specs.Views.{form_seen}
use Rattle.wt_facts.specs.Facts.{known_of}
use Rattle.wt_congruent.proofs.Pairing.{at_put, at_get, at_within, one_more}
use Rattle.wt_search.specs.Found.{Meets}
use Rattle.wt_search.proofs.meet.some_meets.Goals as goal

pub returns-then-branch : goal.returns-then-branch
returns-then-branch c = (
  λ u. (c.loop-i.i, at_put (Meets (known_of c.args.facts.now) (map form_seen c.args.others.now)) form_seen c.args.forms.now c.loop-i.i c.index-forms-i.result (omega arith) c.index-forms-i.is (c.in_ok-meets.ensures.0 c.if-branch.true)),
  λ u. refl,
)

pub loop-i-preserved : goal.loop-i-preserved
loop-i-preserved c =
    one_more (λ i. At (Meets (known_of c.args.facts.now) (map form_seen c.args.others.now)) i (map form_seen c.args.forms.now)) c.loop-i.i c.loop-i.invariant
    (λ h. search (rules, c.if-branch.false, c.in_ok-meets.ensures.1 (at_get (Meets (known_of c.args.facts.now) (map form_seen c.args.others.now)) form_seen c.args.forms.now c.loop-i.i c.index-forms-i.result c.index-forms-i.is h)))

pub returns : goal.returns
returns c = (
  λ u. cc,
  λ m. let l = at_within (Meets (known_of c.args.facts.now) (map form_seen c.args.others.now)) form_seen c.args.forms.now m.0 m.1 in absurd (c.loop-i.invariant m.0 (omega (arith, l)) m.1),
)
