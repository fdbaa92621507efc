use Rattle.std.proofs.Common.{map, ap, ◌∙◌}
use Rattle.wt_form.specs.Views.{ranges_seen, conds_seen}
use Rattle.wt_facts.specs.Facts.{known_of}
use Rattle.wt_congruent.specs.Refs.{cond_behind, range_behind}
use Rattle.wt_joining.proofs.InLaws.{in_turn}
use Rattle.wt_joining.proofs.to_in.push_joins_to_in.Goals as goal

pub returns : goal.returns
returns c = in_turn (known_of c.args.facts.now) c.args.nested (ranges_seen c.args.term.now.ranges) (conds_seen c.args.term.now.conds) c.args.term.now.pieces cond_behind c.as_slice-2.result.now (map range_behind c.as_slice.result.now) _ _
    (ap (map range_behind) c.as_slice.ensures.value ∙ c.in_ok-ranges.ensures) (ap (map cond_behind) c.as_slice-2.ensures.value ∙ c.in_ok-refs.ensures) c.in_ok-push_in_each.ensures
