use Rattle.std.proofs.Common.{◌<◌, ◌≤◌, ◌^◌, arith}
use Rattle.wt_symbol.specs.Sides.{pair_of}
use Rattle.wt_workers.proofs.Shrinking.{tight_within, shrinks_more, shrunk_core}
use Rattle.wt_workers.proofs.verdict.core_in.Goals as goal

pub loop-i-preserved : goal.loop-i-preserved
loop-i-preserved g c =
    let small : c.args.set.0 < 2 ^ 64 = omega arith in
    let old_small : c.loop-i.core.0 < 2 ^ 64 = let l = c.loop-i.invariant.shrinks.less in omega (arith, l, small) in
    let new_small : c.in_ok-core.core.0 < 2 ^ 64 = let l = c.in_ok-core.ensures.less in omega (arith, l, old_small) in
    record {
      shrinks = shrinks_more (pair_of c.args.pair.now) c.args.steps c.args.set c.loop-i.core c.in_ok-core.core c.loop-i.i small c.loop-i.invariant.shrinks c.in_ok-core.ensures;
      needed = λ i t there leaves. tight_within (pair_of c.args.pair.now) c.args.steps c.loop-i.core c.in_ok-core.core i old_small new_small c.in_ok-core.ensures.within (λ h u out. c.loop-i.invariant.needed i u there out) t leaves;
    }

pub returns-clause-core : goal.returns-clause-core
returns-clause-core g c =
    let small : c.args.set.0 < 2 ^ 64 = omega arith in
    let all : 64 ≤ c.loop-i.i = let e = c.loop-i-test.false in omega (arith, e) in
    shrunk_core (pair_of c.args.pair.now) c.args.steps c.args.set c.loop-i.core c.loop-i.i small all c.loop-i.invariant.shrinks
