use Rattle.std.proofs.Common.{map, sym, subst}
use Rattle.wt_bag.specs.Choices.{Has, At}
use Rattle.wt_form.specs.Steps.{Step}
use Rattle.wt_form.specs.Views.{form_seen}
use Rattle.wt_facts.specs.Facts.{known_of}
use Rattle.wt_congruent.proofs.Pairing.{at_put, at_get}
use Rattle.wt_search.specs.Room.{HasRoom}
use Rattle.wt_search.specs.Found.{forms_of}
use Rattle.wt_search.proofs.Growing.{room_at, room_grows, room_stays, grown_said}
use Rattle.wt_search.proofs.found.Found.push_steps.Goals as goal

pub steps-requires-clause-exist : goal.steps-requires-clause-exist
steps-requires-clause-exist c = (room_at HasRoom form_seen c.args.self.now.forms.items c.args.i c.index.result.now c.requires.room c.requires.there c.index.ensures).0

pub steps-requires-clause-narrow : goal.steps-requires-clause-narrow
steps-requires-clause-narrow c = (room_at HasRoom form_seen c.args.self.now.forms.items c.args.i c.index.result.now c.requires.room c.requires.there c.index.ensures).1

pub returns-clause-grown : goal.returns-clause-grown
returns-clause-grown c =
    grown_said (forms_of c.args.self.now) (forms_of c.push_all.new.self) (λ g. Has g (map form_seen c.as_slice.result.now)) (λ g. At (λ h. Step (known_of c.args.facts.now) h g) c.args.i (forms_of c.args.self.now))
    (λ g m. at_put (λ h. Step (known_of c.args.facts.now) h g) form_seen c.args.self.now.forms.items c.args.i c.index.result.now c.requires.there c.index.ensures ((c.in_ok-next.ensures.exact g).0 (subst (λ z. Has g (map form_seen z)) c.as_slice.ensures.value m)))
    (λ g h. subst (λ z. Has g (map form_seen z)) (sym c.as_slice.ensures.value) ((c.in_ok-next.ensures.exact g).1 (at_get (λ h. Step (known_of c.args.facts.now) h g) form_seen c.args.self.now.forms.items c.args.i c.index.result.now c.index.ensures h))) c.in_ok-push_all.ensures.grown

pub returns-clause-room : goal.returns-clause-room
returns-clause-room c =
    room_grows (forms_of c.args.self.now) (forms_of c.push_all.new.self) (λ g. Has g (map form_seen c.as_slice.result.now)) c.in_ok-push_all.ensures.grown c.requires.room
    (λ g m. room_stays (known_of c.args.facts.now) (form_seen c.index.result.now) g (room_at HasRoom form_seen c.args.self.now.forms.items c.args.i c.index.result.now c.requires.room c.requires.there c.index.ensures) ((c.in_ok-next.ensures.exact g).0 (subst (λ z. Has g (map form_seen z)) c.as_slice.ensures.value m)))
