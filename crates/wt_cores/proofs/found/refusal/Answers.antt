use Rattle.std.proofs.Common.{subst}
use Rattle.wt_bag.specs.Choices.{Has}
use Rattle.wt_symbol.specs.Sides.{pair_of}
use Rattle.wt_cores.proofs.CoreLaws.{monotone}
use Rattle.wt_cores.proofs.Searching.{noted}
use Rattle.wt_cores.proofs.found.refusal.Goals as goal

pub returns-in-Some-clause-around : goal.returns-in-Some-clause-around
returns-in-Some-clause-around g c = (c.in-Some.ensures.1, c.requires.before.unprovable c.in-Some.other (subst (Has c.in-Some.other) c.deref.ensures.value c.in-Some.ensures.0))

pub returns-then-has_core-clause-none : goal.returns-then-has_core-clause-none
returns-then-has_core-clause-none g c =
    let core = c.has_core.ensures c.if-has_core.true in
    monotone (pair_of c.args.pair.now) c.args.steps core.0 c.args.set core.2 (c.requires.before.are_cores core.0 (subst (Has core.0) c.deref-2.ensures.value core.1)).provable

pub returns-clause-found : goal.returns-clause-found
returns-clause-found g c = noted (pair_of c.args.pair.now) c.args.steps c.args.found.now.cores.items c.args.found.now.refused.items _ c.in_ok-larger.larger c.in_ok-push.ensures.items c.in_ok-larger.ensures.unprovable c.requires.before
