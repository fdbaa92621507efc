use Rattle.std.proofs.Common.{map, length, refl, ap, ◌∙◌}
use Rattle.wt_form.specs.Views.{ranges_seen, conds_seen}
use Rattle.wt_facts.specs.Facts.{known_of}
use Rattle.wt_congruent.specs.Refs.{range_behind}
use Rattle.wt_places.proofs.GainedLaws.{length_behind}
use Rattle.wt_open.proofs.OpenLaws.{opened_turn}
use Rattle.wt_open.proofs.RoomLaws.{rooms}
use Rattle.wt_open.proofs.places.push_opened.Goals as goal

pub push_opened_each-requires : goal.push_opened_each-requires
push_opened_each-requires c =
    let refs = c.as_slice.result.now in
    record {
      room = rooms (ranges_seen c.args.term.now.ranges) (conds_seen c.args.term.now.conds) c.args.term.now.pieces (map range_behind refs) (length refs) (ap (map range_behind) c.as_slice.ensures.value ∙ c.in_ok-refs.ensures)
          (length_behind range_behind refs (map range_behind refs) refl) c.requires.exist c.requires.narrow;
    }

pub returns : goal.returns
returns c =
    opened_turn (known_of c.args.facts.now) c.args.nested (ranges_seen c.args.term.now.ranges) (conds_seen c.args.term.now.conds) c.args.term.now.pieces range_behind c.as_slice.result.now _ _
    (ap (map range_behind) c.as_slice.ensures.value ∙ c.in_ok-refs.ensures) c.in_ok-push_opened_each.ensures
