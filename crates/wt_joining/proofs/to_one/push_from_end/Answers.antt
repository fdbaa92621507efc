use Rattle.std.proofs.Common.{map, length}
use Rattle.wt_facts.specs.Facts.{known_of}
use Rattle.wt_congruent.specs.Refs.{cond_behind, range_behind}
use Rattle.wt_places.specs.Gained.{Upto, EachOf}
use Rattle.wt_places.proofs.GainedLaws.{gained_seq}
use Rattle.wt_joining.specs.ToOne.{MergedDirectly, MergedThrough}
use Rattle.wt_joining.proofs.to_one.push_from_end.Goals as goal

pub returns : goal.returns
returns c = gained_seq (MergedDirectly (known_of c.args.facts.now) (map range_behind c.args.ranges.now) (map cond_behind c.args.refs.now) c.args.term.now.pieces c.args.end) (Upto (EachOf (MergedThrough (known_of c.args.facts.now) c.args.ks.now (map range_behind c.args.ranges.now) (map cond_behind c.args.refs.now) c.args.term.now.pieces c.args.end) c.args.ends.now) (length c.args.ends.now)) _ _ _ c.in_ok-push_directly.ensures c.in_ok-push_through_each.ensures
