use Rattle.std.proofs.Common.{sym, subst}
use Rattle.wt_symbol.specs.Sides.{pair_of}
use Rattle.wt_form.specs.Views.{form_seen}
use Rattle.wt_facts.specs.Facts.{known_of}
use Rattle.wt_search.specs.Room.{HasRoom}
use Rattle.wt_search.proofs.Meeting.{set_proved, source_room, dest_room}
use Rattle.wt_search.proofs.search.Ready.proves.Goals as goal

pub proves-requires-clause-source : goal.proves-requires-clause-source
proves-requires-clause-source c = subst HasRoom (sym c.requires.ready.source) (source_room (pair_of c.args.pair.now) c.requires.lawful)

pub proves-requires-clause-dest : goal.proves-requires-clause-dest
proves-requires-clause-dest c = subst HasRoom (sym c.requires.ready.dest) (dest_room (pair_of c.args.pair.now) c.requires.lawful)

pub returns : goal.returns
returns c =
    set_proved (pair_of c.args.pair.now) c.args.set c.args.steps (known_of c.in_ok-facts.facts) (form_seen c.args.self.now.source) (form_seen c.args.self.now.dest) c.in_ok-proved.proved c.in_ok-facts.ensures.under c.requires.ready.source c.requires.ready.dest c.in_ok-proved.ensures
