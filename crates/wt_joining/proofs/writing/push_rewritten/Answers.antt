use Rattle.std.proofs.Common.{map, ap, ◌∙◌}
use Rattle.wt_form.specs.Views.{ranges_seen, conds_seen}
use Rattle.wt_congruent.specs.Refs.{cond_behind}
use Rattle.wt_joining.proofs.WritingLaws.{rewritten_turn}
use Rattle.wt_joining.proofs.writing.push_rewritten.Goals as goal

pub returns : goal.returns
returns c K = rewritten_turn K (ranges_seen c.args.term.now.ranges) (conds_seen c.args.term.now.conds) c.args.term.now.pieces cond_behind c.as_slice.result.now _ _ (ap (map cond_behind) c.as_slice.ensures.value ∙ c.in_ok-refs.ensures) c.in_ok-push_written_each.ensures
