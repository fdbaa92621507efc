use Rattle.std.proofs.Common.{map, subst}
use Rattle.wt_facts.specs.Facts.{known_of}
use Rattle.wt_congruent.specs.Refs.{cond_behind, range_behind}
use Rattle.wt_joining.specs.ToIn.{IsElsewhere}
use Rattle.wt_joining.proofs.Lists.{on_ok}
use Rattle.wt_joining.proofs.InLaws.{gained_nowhere}
use Rattle.wt_joining.proofs.to_in.push_nowhere.Goals as goal

pub returns-then-is_nowhere : goal.returns-then-is_nowhere
returns-then-is_nowhere c =
    on_ok c.push_in_range.result _ _
    (gained_nowhere (known_of c.args.facts.now) c.args.nested (map range_behind c.args.ranges.now) c.args.term.now.pieces c.args.v c.args.b (map cond_behind c.args.before.now) (map cond_behind c.args.after.now) c.args.e _ _
    (subst (IsElsewhere c.args.v c.args.e (map cond_behind c.args.before.now) (map cond_behind c.args.after.now)) c.as_slice.ensures (c.is_nowhere.ensures.0 c.if-is_nowhere.true))) c.push_in_range.ensures
