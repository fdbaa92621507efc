use Rattle.std.proofs.Common.{arith, length}
use Rattle.std.proofs.lemmas.List.{length-map}
use Rattle.wt_form.specs.Steps.{Step}
use Rattle.wt_form.specs.Views.{form_seen}
use Rattle.wt_facts.specs.Facts.{known_of}
use Rattle.wt_congruent.proofs.Pairing.{at_within}
use Rattle.wt_search.specs.Found.{GoesBetween, forms_of}
use Rattle.wt_search.proofs.Growing.{grown_place, grown_said}
use Rattle.wt_search.proofs.found.Found.push_round.Goals as goal

pub loop-i-preserved : goal.loop-i-preserved
loop-i-preserved c = record {
  numbered = c.in_ok-push_steps.ensures.numbered;
  room = c.in_ok-push_steps.ensures.room;
  grown =
      let n = length-map c.args.self.now.forms.items form_seen in
      grown_place (known_of c.args.facts.now) c.args.first c.loop-i.i (forms_of c.args.self.now) (forms_of c.loop-i.self) (forms_of c.push_steps.new.self) (omega arith) (omega (arith, n)) c.loop-i.invariant.grown c.in_ok-push_steps.ensures.grown;
}

pub returns-clause-grown : goal.returns-clause-grown
returns-clause-grown c =
    grown_said (forms_of c.args.self.now) (forms_of c.loop-i.self) (GoesBetween (known_of c.args.facts.now) (forms_of c.args.self.now) c.args.first c.loop-i.i) (GoesBetween (known_of c.args.facts.now) (forms_of c.args.self.now) c.args.first (length c.args.self.now.forms.items))
    (λ g b. (b.0, b.1, at_within (λ h. Step (known_of c.args.facts.now) h g) form_seen c.args.self.now.forms.items b.0 b.3, b.3)) (λ g b. let k = b.2 in (b.0, b.1, omega (arith, k), b.3)) c.loop-i.invariant.grown
