use Rattle.std.proofs.Common.{◌≡◌, arith, length, sym, subst}
use Rattle.std.proofs.lemmas.List.{length-map}
use Rattle.wt_bag.specs.Choices.{Has}
use Rattle.wt_form.specs.Views.{form_seen}
use Rattle.wt_facts.specs.Facts.{known_of}
use Rattle.wt_search.specs.Room.{HasRoom}
use Rattle.wt_search.specs.Found.{forms_of}
use Rattle.wt_search.proofs.Growing.{room_grows}
use Rattle.wt_search.proofs.Reaching.{first_round, one_round, all_rounds, rounds_at_rest}
use Rattle.wt_search.proofs.reach.reached.Goals as goal

pub loop-round-init : goal.loop-round-init
loop-round-init c = record {
  numbered = c.in_ok-push.ensures.numbered;
  room = room_grows (forms_of c.new-found.result) (forms_of c.push.new.self) (λ g. g ≡ (form_seen c.args.start.now)) c.in_ok-push.ensures.grown (λ g h. absurd (subst (Has g) c.new-found.ensures.none h)) (λ g e. subst HasRoom (sym e) c.requires.room);
  searched = first_round (known_of c.args.facts.now) (form_seen c.args.start.now) (forms_of c.new-found.result) (forms_of c.push.new.self) c.new-found.ensures.none c.in_ok-push.ensures.grown;
}

pub returns-then-first-last : goal.returns-then-first-last
returns-then-first-last c = record { exact = let n = length-map c.loop-round.found.forms.items form_seen in rounds_at_rest (known_of c.args.facts.now) c.loop-round.round c.args.steps (form_seen c.args.start.now) (forms_of c.loop-round.found) c.loop-round.first (omega arith) (omega (arith, n)) c.loop-round.invariant.searched }

pub loop-round-preserved : goal.loop-round-preserved
loop-round-preserved c = record {
  numbered = c.in_ok-push_round.ensures.numbered;
  room = c.in_ok-push_round.ensures.room;
  searched =
      let n = length-map c.loop-round.found.forms.items form_seen in
      one_round (known_of c.args.facts.now) c.loop-round.round (form_seen c.args.start.now) (forms_of c.loop-round.found) (forms_of c.push_round.new.self) c.loop-round.first _ (length c.loop-round.found.forms.items) (omega (arith, n)) (sym n) c.in_ok-push_round.ensures.grown c.loop-round.invariant.searched;
}

pub returns : goal.returns
returns c = record { exact = all_rounds (known_of c.args.facts.now) c.loop-round.round c.args.steps (form_seen c.args.start.now) (forms_of c.loop-round.found) c.loop-round.first (omega arith) c.loop-round.invariant.searched }
