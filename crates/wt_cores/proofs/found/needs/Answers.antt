use Rattle.std.proofs.Common.{IsTrue, rules}
use Rattle.wt_symbol.specs.Sides.{pair_of}
use Rattle.wt_cores.proofs.Searching.{needed_if}
use Rattle.wt_cores.proofs.found.needs.Goals as goal

pub returns-clause-exact : goal.returns-clause-exact
returns-clause-exact g c =
    let yes : IsTrue c.has.result = search (rules, c.if-not-has.false) in
    needed_if (pair_of c.args.pair.now) c.args.steps c.args.set c.without-less.result c.args.i c.in_ok-refused.refused _ c.is_some.ensures (c.has.ensures.0 yes) c.without-less.ensures.number c.in_ok-refused.ensures.around c.in_ok-refused.ensures.none
