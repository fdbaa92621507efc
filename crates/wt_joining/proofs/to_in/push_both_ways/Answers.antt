use Rattle.std.proofs.Common.{map}
use Rattle.wt_facts.specs.Facts.{known_of}
use Rattle.wt_congruent.specs.Refs.{cond_behind, range_behind}
use Rattle.wt_places.proofs.GainedLaws.{gained_seq}
use Rattle.wt_joining.specs.ToIn.{BecomesIn}
use Rattle.wt_joining.proofs.to_in.push_both_ways.Goals as goal

pub returns : goal.returns
returns c = gained_seq (BecomesIn (known_of c.args.facts.now) c.args.nested (map range_behind c.args.ranges.now) c.args.term.now.pieces (map cond_behind c.args.before.now) (map cond_behind c.args.after.now) c.args.x c.args.y) (BecomesIn (known_of c.args.facts.now) c.args.nested (map range_behind c.args.ranges.now) c.args.term.now.pieces (map cond_behind c.args.before.now) (map cond_behind c.args.after.now) c.args.y c.args.x) _ _ _ c.in_ok-push_becoming_in.ensures c.in_ok-push_becoming_in-2.ensures
