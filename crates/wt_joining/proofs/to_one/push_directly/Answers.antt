use Rattle.std.proofs.Common.{map}
use Rattle.wt_facts.specs.Facts.{known_of}
use Rattle.wt_congruent.specs.Refs.{cond_behind, range_behind}
use Rattle.wt_joining.proofs.Lists.{on_ok}
use Rattle.wt_joining.proofs.OneLaws.{gained_directly}
use Rattle.wt_joining.proofs.to_one.push_directly.Goals as goal

pub returns-in-Some : goal.returns-in-Some
returns-in-Some c =
    on_ok c.push_one.result _ _
    (gained_directly (known_of c.args.facts.now) (map range_behind c.args.ranges.now) (map cond_behind c.args.refs.now) c.args.term.now.pieces c.args.end c.in-Some.y c.in-Some.c _ _ c.in-Some.ensures) c.push_one.ensures
