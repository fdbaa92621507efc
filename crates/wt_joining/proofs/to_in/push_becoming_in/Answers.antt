use Rattle.std.proofs.Common.{map}
use Rattle.wt_facts.specs.Facts.{known_of}
use Rattle.wt_congruent.specs.Refs.{cond_behind, range_behind}
use Rattle.wt_joining.proofs.Lists.{on_ok}
use Rattle.wt_joining.proofs.InLaws.{gained_becoming}
use Rattle.wt_joining.proofs.to_in.push_becoming_in.Goals as goal

pub returns-in-Some : goal.returns-in-Some
returns-in-Some c =
    on_ok c.push_nowhere.result _ _
    (gained_becoming (known_of c.args.facts.now) c.args.nested (map range_behind c.args.ranges.now) c.args.term.now.pieces c.in-Some.v c.in-Some.b (map cond_behind c.args.before.now) (map cond_behind c.args.after.now) c.args.e c.args.f _ _ c.in-Some.ensures) c.push_nowhere.ensures
