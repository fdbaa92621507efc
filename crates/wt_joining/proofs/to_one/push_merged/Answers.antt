use Rattle.std.proofs.Common.{map, ap, sym, ◌∙◌}
use Rattle.wt_form.specs.Views.{ranges_seen, conds_seen}
use Rattle.wt_congruent.specs.Refs.{cond_behind, range_behind}
use Rattle.wt_joining.specs.Ends.{ends_of_conds}
use Rattle.wt_joining.proofs.OneLaws.{merged_turn}
use Rattle.wt_joining.proofs.to_one.push_merged.Goals as goal

pub push_from_ends-requires : goal.push_from_ends-requires
push_from_ends-requires c = ap (map range_behind) c.as_slice-3.ensures.value ∙ c.in_ok-ranges.ensures

pub returns : goal.returns
returns c =
    let conds = ap (map cond_behind) c.as_slice-4.ensures.value ∙ c.in_ok-refs.ensures in
    merged_turn c.args.facts.now (ranges_seen c.args.term.now.ranges) (conds_seen c.args.term.now.conds) c.args.term.now.pieces c.as_slice-2.result.now (map range_behind c.as_slice-3.result.now) (map cond_behind c.as_slice-4.result.now) c.as_slice-5.result.now _ _
    (c.as_slice-2.ensures.value ∙ c.in_ok-ks.ensures) (ap (map range_behind) c.as_slice-3.ensures.value ∙ c.in_ok-ranges.ensures) conds
    (c.as_slice-5.ensures.value ∙ c.in_ok-ends.ensures ∙ ap ends_of_conds (ap (map cond_behind) (c.as_slice.ensures.value ∙ sym c.as_slice-4.ensures.value))) c.in_ok-push_from_ends.ensures
