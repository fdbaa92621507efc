use Rattle.std.proofs.Common.{rules, arith, ◌-◌, IsTrue}
use Rattle.wt_symbol.specs.Sides.{pair_of}
use Rattle.wt_search.proofs.Shrinking.{nothing_to_try, drops, needs, lacks}
use Rattle.wt_search.proofs.search.Ready.+shrink.Goals as goal

pub returns-then-below-eq0 : goal.returns-then-below-eq0
returns-then-below-eq0 t c = nothing_to_try (pair_of c.args.pair.now) c.args.steps c.args.below c.args.set (omega arith)

pub returns-then-not-has : goal.returns-then-not-has
returns-then-not-has t c =
    lacks (pair_of c.args.pair.now) c.args.steps c.args.below (c.args.below - 1) c.args.set c.in_ok-left.left (omega arith) (λ h. search (rules, c.if-not-has.true, c.has.ensures.1 h)) c.in_ok-left.ensures

pub returns-then-branch : goal.returns-then-branch
returns-then-branch t c =
    let yes : IsTrue c.has.result = search (rules, c.if-not-has.false) in
    drops (pair_of c.args.pair.now) c.args.steps c.args.below (c.args.below - 1) c.args.set c.without-less.result c.in_ok-left-2.left (omega arith) (c.has.ensures.0 yes) c.without-less.ensures.number (c.in_ok-proves.ensures.0 c.if-branch.true) c.in_ok-left-2.ensures

pub returns : goal.returns
returns t c =
    let yes : IsTrue c.has.result = search (rules, c.if-not-has.false) in
    needs (pair_of c.args.pair.now) c.args.steps c.args.below (c.args.below - 1) c.args.set c.without-less.result c.in_ok-left-3.left (omega arith) (c.has.ensures.0 yes) c.without-less.ensures.number (λ p. search (rules, c.if-branch.false, c.in_ok-proves.ensures.1 p)) c.in_ok-left-3.ensures
