use Rattle.std.proofs.Common.{map}
use Rattle.wt_form.specs.Views.{ranges_seen, conds_seen, cond_seen}
use Rattle.wt_congruent.specs.Refs.{cond_behind}
use Rattle.wt_places.proofs.GainedLaws.{gained_seq}
use Rattle.wt_joining.specs.Writing.{WrittenBy}
use Rattle.wt_joining.proofs.writing.push_both_ways.Goals as goal

pub returns : goal.returns
returns c = gained_seq (WrittenBy (ranges_seen c.args.term.now.ranges) (conds_seen c.args.term.now.conds) c.args.term.now.pieces (map cond_behind c.args.before.now) (cond_seen c.args.join.now) (map cond_behind c.args.after.now) c.args.x c.args.y) (WrittenBy (ranges_seen c.args.term.now.ranges) (conds_seen c.args.term.now.conds) c.args.term.now.pieces (map cond_behind c.args.before.now) (cond_seen c.args.join.now) (map cond_behind c.args.after.now) c.args.y c.args.x) _ _ _ c.in_ok-push_written.ensures c.in_ok-push_written-2.ensures
